-- What is named as over a limit has a larger count.
use Rattle.std.proofs.Common.{◌≡◌, ℕ, zero, suc, ◌<◌, Bool, true, false, List, [], ◌∷◌, length, Option, Some, None, refl, arith}
use Rattle.std.specs.Prelude.{nat_lt, slice_get}
use Rattle.std.proofs.lemmas.Bool.{ltb-true}
use Rattle.own_tree.specs.declared.span.Span.{Span}
use Rattle.own_shapes.specs.declared.counted.Counted.{Counted}
use Rattle.own_shapes.specs.Counts.{counted, first_over, too_many, IsExceeded}

pub first_is_over : (largest : ℕ) (cs : List Counted) → IsExceeded largest (first_over largest cs)
first_is_over largest [] = tt
first_is_over largest (c ∷ cs) =
    let P : Bool → Type 0 = λ b. nat_lt largest c.count ≡ b → IsExceeded largest (first_over largest (c ∷ cs)) in
    elim (nat_lt largest c.count) as P [
      | true ↦ λ over. rw over (ltb-true _ _ over)
      | false ↦ λ within. rw within (first_is_over largest cs)
    ] refl

past : (largest : ℕ) (spans : List Span) (at : Span) → slice_get spans largest ≡ Some at → largest < length spans
past largest [] at is = absurd (cc)
past zero (s ∷ spans) at is = omega arith
past (suc largest) (s ∷ spans) at is = let more = past largest spans at is in omega (arith, more)

pub many_are_over : (largest : ℕ) (spans : List Span) → IsExceeded largest (too_many largest spans)
many_are_over largest spans =
    let P : Option Span → Type 0 = λ o. slice_get spans largest ≡ o → IsExceeded largest (elim o [ None ↦ None | Some at ↦ Some (counted (length spans) at) ]) in
    elim (slice_get spans largest) as P [
      | None ↦ λ few. tt
      | Some at ↦ λ is. past largest spans at is
    ] refl
