use Rattle.std.proofs.Common.{ℕ, ◌+◌, ◌<◌, false, length, get_or, sym, ap, ◌∙◌, subst, arith}
use Rattle.std.proofs.lemmas.Option.{slice_get-get_or}
use Rattle.std.specs.Prelude.{◌↔◌, Contains}
use Rattle.own_tree.specs.declared.graph.Maker.{Maker}
use Rattle.own_walks.specs.Reaching.{IsOf}
use Rattle.own_rules.specs.Bodies.{IsLeast, earlier}
use Rattle.own_rules.proofs.LeastCauses.{CauseBy, cause_more, cause_skip, causes_all, maker_within, list_is}
use Rattle.own_rules.proofs.body.Body.least_cause.Goals as goal
use Rattle.own_rules.proofs.body.Body.least_cause.Goals.{then-has, else-has}

abbrev nobody : Maker
nobody = record { node = 0; leaf = 0; live = false }

pub has-requires-clause-maker : goal.has-requires-clause-maker
has-requires-clause-maker c =
    let b = c.args.self.now in let makers = c.as_slice-makers.result.now in let k = c.makers.k in let p = get_or makers k 0 in
    let lt : c.args.leaf < length b.by_leaf.now = omega (arith, c.requires.leaf, c.requires.whole.lists) in
    let same = list_is b.by_leaf.now c.args.leaf c.index-self-leaf.result makers lt c.as_slice-makers.ensures in
    let of : (p : ℕ) → Contains makers p ↔ IsOf b.pairs.now p c.args.leaf = λ p. subst (λ l. Contains l p ↔ IsOf b.pairs.now p c.args.leaf) (sym same) (c.requires.whole.of_leaf c.args.leaf p) in
    let within = maker_within b.nodes.now b.pairs.now b.facts.now c.args.rule c.args.node makers c.args.leaf k p of (slice_get-get_or makers k 0 c.makers-test.true) in
    let each = c.requires.whole.sized.each c.args.node c.requires.node in omega (arith, within, each)

pub makers-preserved : goal.makers-preserved
makers-preserved c =
    let b = c.args.self.now in let makers = c.as_slice-makers.result.now in let k = c.makers.k in let p = get_or makers k 0 in let q = get_or b.pairs.now p nobody in
    let lt : c.args.leaf < length b.by_leaf.now = omega (arith, c.requires.leaf, c.requires.whole.lists) in
    let same = list_is b.by_leaf.now c.args.leaf c.index-self-leaf.result makers lt c.as_slice-makers.ensures in
    let of : (p : ℕ) → Contains makers p ↔ IsOf b.pairs.now p c.args.leaf = λ p. subst (λ l. Contains l p ↔ IsOf b.pairs.now p c.args.leaf) (sym same) (c.requires.whole.of_leaf c.args.leaf p) in
    let at = slice_get-get_or makers k 0 c.makers-test.true in
    let within = maker_within b.nodes.now b.pairs.now b.facts.now c.args.rule c.args.node makers c.args.leaf k p of at in
    let there = slice_get-get_or b.pairs.now p nobody within in
    elim c.if-has.branch [
      | then-has w ↦
          subst (λ a. IsLeast (λ s. (j : ℕ) × (j < k + 1) × CauseBy b.nodes.now b.pairs.now b.facts.now c.args.rule c.args.node makers j s) a)
          (sym (w.least-is ∙ w.earlier-least.ensures ∙ ap (λ x. earlier c.makers.least x) w.cause_of.ensures))
          (cause_more b.nodes.now b.pairs.now b.facts.now c.args.rule c.args.node makers k p q c.makers.least at there (sym w.if-has.ensures) c.makers.invariant)
      | else-has w ↦
          subst (λ a. IsLeast (λ s. (j : ℕ) × (j < k + 1) × CauseBy b.nodes.now b.pairs.now b.facts.now c.args.rule c.args.node makers j s) a) (sym w.least-is)
          (cause_skip b.nodes.now b.pairs.now b.facts.now c.args.rule c.args.node makers k p c.makers.least at (sym w.if-has.ensures) c.makers.invariant)
    ]

pub returns : goal.returns
returns c =
    let b = c.args.self.now in let makers = c.as_slice-makers.result.now in
    let lt : c.args.leaf < length b.by_leaf.now = omega (arith, c.requires.leaf, c.requires.whole.lists) in
    let same = list_is b.by_leaf.now c.args.leaf c.index-self-leaf.result makers lt c.as_slice-makers.ensures in
    causes_all b.nodes.now b.pairs.now b.facts.now c.args.rule c.args.node makers c.args.leaf c.makers.k c.makers.least c.makers-test.false
    (λ p. subst (λ l. Contains l p ↔ IsOf b.pairs.now p c.args.leaf) (sym same) (c.requires.whole.of_leaf c.args.leaf p)) c.makers.invariant
