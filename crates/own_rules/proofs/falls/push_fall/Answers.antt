use Rattle.std.proofs.Common.{sym, ap, ◌∙◌, subst}
use Rattle.own_tree.specs.declared.finding.Rule.TheVariants as rule
use Rattle.own_paths.specs.Fixed.{broken}
use Rattle.own_breaks.specs.Settling.{Gathers, offered}
use Rattle.own_rules.specs.Falling.{FallsHere}
use Rattle.own_rules.proofs.Falling.{falls_found}
use Rattle.own_rules.proofs.falls.push_fall.Goals as goal

pub returns : goal.returns
returns c =
    let xs = c.args.found.now.items in
    subst (λ l. Gathers (FallsHere c.args.graph.now c.args.result_type c.args.close) xs l)
    (sym (c.in_ok-offer.ensures ∙ ap (λ p. offered xs (broken rule.F1 c.args.close p c.args.close)) c.no_place.ensures))
    (falls_found c.args.graph.now c.args.result_type c.args.close xs (sym c.if-not-has_result.ensures) (c.in_ok-falls_off.ensures.0 c.if-not-branch.false))
