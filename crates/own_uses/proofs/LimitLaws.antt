-- Counts against limits, as they are held, and the first limit that is passed.
use Rattle.std.proofs.Common.{◌≡◌, ℕ, ◌-◌, ◌^◌, ◌<◌, ◌≤◌, true, false, Option, Some, None, refl, sym, ap, ◌∙◌, arith}
use Rattle.std.specs.Prelude.{nat_lt, if◌then◌else◌}
use Rattle.std.specs.Option.{option_or}
use Rattle.std.proofs.lemmas.Bool.{lt-ltb, le-ltb}
use Rattle.own_tree.specs.declared.refusal.LimitKind.{LimitKind}
use Rattle.own_tree.specs.declared.span.Span.{Span}
use Rattle.own_paths.specs.BodyLimits.{over}
use Rattle.own_shapes.specs.Counts.{counted}
use Rattle.own_shapes.specs.declared.counted.Counted.{Counted}
use Rattle.own_uses.specs.Answers.{or_else}
use Rattle.own_uses.specs.declared.error.UsesError.{UsesError}
use Rattle.own_uses.specs.declared.error.UsesError.TheVariants as uses_error
use Rattle.own_uses.specs.Saturating.{held}

module _ (which : LimitKind) (largest count n : ℕ) (at : Span) (small : largest < 2 ^ 64 - 1) (is : count ≡ held n) where
  pub larger_passes : largest < count → Some (uses_error.Limit which count at) ≡ or_else which (over largest n at) None
  larger_passes lt =
      let larger : largest < n = omega (arith, is, lt) in
      ap (λ k. Some (uses_error.Limit which k at)) is
      ∙ sym (ap (λ b. or_else which (if b then Some (counted n at) else None) None) (lt-ltb largest n larger))

  pub within_passes_none : count ≤ largest → None ≡ or_else which (over largest n at) None
  within_passes_none le =
      let within : n ≤ largest = omega (arith, is, le, small) in
      sym (ap (λ b. or_else which (if b then Some (counted n at) else None) None) (le-ltb largest n within))

-- the first limit of several
pub or_later : (which : LimitKind) (found : Option Counted) (later : Option UsesError) → option_or (or_else which found None) later ≡ or_else which found later
or_later which None later = refl
or_later which (Some c) later = refl
