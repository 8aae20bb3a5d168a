use Rattle.std.proofs.Common.{◌≡◌, ◌<◌, inl, inr, false, length, slice_get, Some, get_or, sym, subst, arith}
use Rattle.std.proofs.lemmas.Bool.{cases_eq}
use Rattle.std.proofs.lemmas.Option.{slice_get-get_or}
use Rattle.own_tree.specs.declared.graph.Maker.{Maker}
use Rattle.own_flow.proofs.tests.are_starts.Goals as goal

abbrev nobody : Maker
nobody = record { node = 0; leaf = 0; live = false }

pub leaves-init : goal.leaves-init
leaves-init c = λ k lt. absurd (omega (arith, lt))

pub leaves-preserved : goal.leaves-preserved
leaves-preserved c = λ k lt.
    let pairs = c.args.pairs.now in let l = c.leaves.l in
    let within : l < length pairs = omega (arith, c.if-l-pairs.false) in
    elim (cases_eq k l) [
      | inl e ↦ subst (λ x. (q : Maker) × (slice_get pairs x ≡ Some q) × (q.leaf ≡ x)) (sym e) (get_or pairs l nobody, slice_get-get_or pairs l nobody within, c.if-pairs-l.false)
      | inr other ↦ c.leaves.invariant k (omega (arith, lt, other))
    ]

pub returns : goal.returns
returns c = λ e l lt. c.leaves.invariant l (omega (arith, lt, c.leaves-test.false))
