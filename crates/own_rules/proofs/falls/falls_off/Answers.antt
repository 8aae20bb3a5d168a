use Rattle.std.proofs.Common.{[], sym, ◌∙◌, subst, arith}
use Rattle.std.specs.Prelude.{slice_index_or}
use Rattle.own_flow.specs.Facts.{AreJoined, AreFactsOf}
use Rattle.own_rules.proofs.Falling.{walk_within, alone_joined, walks_reach}
use Rattle.own_rules.proofs.Flows.{row_has}
use Rattle.own_rules.proofs.falls.falls_off.Goals as goal

pub returns-then-len-lt2 : goal.returns-then-len-lt2
returns-then-len-lt2 c =
    (λ e. absurd cc, λ w. let lt = walk_within c.args.graph.now.nodes c.requires.edges c.args.graph.now.entry w.0 1 c.requires.entry w.1 in absurd (omega (arith, lt, c.len.ensures, c.if-len-lt2.true)))

pub reach-requires : goal.reach-requires
reach-requires c = subst (λ m. AreJoined c.args.graph.now m) (sym c.in_ok-makers.ensures) (alone_joined c.args.graph.now c.requires.edges c.requires.entry)

pub returns : goal.returns
returns c =
    let graph = c.args.graph.now in
    let facts = subst (λ m. AreFactsOf graph m c.in_ok-facts.facts) c.in_ok-makers.ensures c.in_ok-facts.ensures in
    let row = row_has (slice_index_or c.in_ok-facts.facts 1 []) 0 in
    let walks = walks_reach graph.nodes graph.entry 1 in
    (λ e. walks.0 ((facts.has 1 0).0 (row.1 (sym c.has.ensures ∙ e))), λ w. c.has.ensures ∙ row.0 ((facts.has 1 0).1 (walks.1 w)))
