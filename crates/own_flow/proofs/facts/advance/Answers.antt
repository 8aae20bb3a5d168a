use Rattle.std.proofs.Common.{◌≡◌, ◌<◌, length, sym, ap, ◌∙◌, subst}
use Rattle.own_flow.specs.Facts.{AreRows, IsSizedFor, facts_in, words_for}
use Rattle.own_flow.specs.Rounds.{IsRound}
use Rattle.own_flow.proofs.FactLaws.{edges_of, round_of, makers_of}
use Rattle.own_flow.proofs.TableLaws.{facts_sized}
use Rattle.own_flow.proofs.facts.advance.Goals as goal

pub round-requires-clause-edges : goal.round-requires-clause-edges
round-requires-clause-edges c =
    edges_of c.args.graph.now c.args.makers.now c.as_slice.result.now c.as_slice-2.result.now c.len.result c.as_slice.ensures c.as_slice-2.ensures c.len.ensures c.requires.joined

pub round-requires-clause-out : goal.round-requires-clause-out
round-requires-clause-out c =
    let size = makers_of c.facts.inside.makers c.facts.inside.rows.items c.args.facts.now c.args.graph.now c.args.makers.now c.facts.view_is c.requires.joined c.requires.sized in
    c.facts.invariant.1 ∙ ap words_for (size ∙ sym (ap length c.as_slice-2.ensures))

pub round-requires-clause-mask : goal.round-requires-clause-mask
round-requires-clause-mask c =
    let size = makers_of c.facts.inside.makers c.facts.inside.rows.items c.args.facts.now c.args.graph.now c.args.makers.now c.facts.view_is c.requires.joined c.requires.sized in
    c.facts.invariant.2 ∙ ap words_for (size ∙ sym (ap length c.as_slice-2.ensures))

pub round-requires-clause-rows : goal.round-requires-clause-rows
round-requires-clause-rows c =
    let size = makers_of c.facts.inside.makers c.facts.inside.rows.items c.args.facts.now c.args.graph.now c.args.makers.now c.facts.view_is c.requires.joined c.requires.sized in
    subst (λ n. AreRows n c.facts.inside.rows.items c.facts.inside.waiting.items) (size ∙ sym (ap length c.as_slice-2.ensures)) c.facts.invariant.0

pub invariant_of-facts : goal.invariant_of-facts
invariant_of-facts c =
    let size = makers_of c.facts.inside.makers c.facts.inside.rows.items c.args.facts.now c.args.graph.now c.args.makers.now c.facts.view_is c.requires.joined c.requires.sized in (
      subst (λ n. AreRows n c.round.new.rows.items c.round.new.waiting.items) (sym (size ∙ sym (ap length c.as_slice-2.ensures))) c.round.ensures.rows,
      c.round.ensures.len ∙ c.facts.invariant.1,
      c.round.ensures.mask_len ∙ c.facts.invariant.2,
    )

pub returns-clause-sized : goal.returns-clause-sized
returns-clause-sized c =
    let n = c.facts.inside.makers in let rows = c.round.new.rows.items in
    let size = makers_of n c.facts.inside.rows.items c.args.facts.now c.args.graph.now c.args.makers.now c.facts.view_is c.requires.joined c.requires.sized in
    subst (λ k. IsSizedFor k (length c.args.makers.now.pairs) (facts_in n rows)) (c.round.ensures.count ∙ ap length c.as_slice.ensures)
    (subst (λ k. IsSizedFor (length rows) k (facts_in n rows)) size (facts_sized n rows))

pub returns-clause-round : goal.returns-clause-round
returns-clause-round c =
    let n = c.facts.inside.makers in let rows = c.facts.inside.rows.items in let rows' = c.round.new.rows.items in
    let size = makers_of n rows c.args.facts.now c.args.graph.now c.args.makers.now c.facts.view_is c.requires.joined c.requires.sized in
    let many : n ≡ length c.as_slice-2.result.now = size ∙ sym (ap length c.as_slice-2.ensures) in
    subst (λ f. IsRound c.args.graph.now c.args.makers.now f (facts_in n rows') c.round.result) c.facts.view_is
    (round_of c.args.graph.now c.args.makers.now c.as_slice.result.now c.as_slice-2.result.now c.len.result c.as_slice.ensures c.as_slice-2.ensures c.len.ensures n rows rows' c.round.result many
    (λ u m h. subst (λ k. m < k) many (c.facts.invariant.0.within u m h)) c.round.ensures.rows.within c.round.ensures.rounds)
