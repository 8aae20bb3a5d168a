-- That the tests of side conditions say what they test.
use Rattle.std.specs.Prelude.{◌≡◌, ℕ, ◌≤◌, ◌==◌, nat_le, Bool, true, false, ◌&&◌, ◌||◌, ◌⊎◌}
use Rattle.std.proofs.Common.{refl, inl, inr, arith}
use Rattle.std.proofs.lemmas.Grind.{common_steps}
use Rattle.own_tree.specs.declared.place.Ty.{Ty}
use Rattle.own_tree.specs.declared.place.Ty.TheVariants as type
use Rattle.own_calls.specs.Arguments.{same_type}
use Rattle.own_judging.specs.Judged.{Test}

-- ---- types

pub type_is_same : (a b : Ty) → same_type a b ≡ true → a ≡ b
type_is_same type.Int type.Int e = refl
type_is_same type.Bool type.Bool e = refl
type_is_same type.Unit type.Unit e = refl
type_is_same (type.Named k) (type.Named n) e = grind (arith, common_steps)
type_is_same (type.Fun k) (type.Fun n) e = grind (arith, common_steps)
type_is_same _ _ e = cc

same_as_itself : (a : Ty) → same_type a a ≡ true
same_as_itself type.Int = refl
same_as_itself type.Bool = refl
same_as_itself type.Unit = refl
same_as_itself (type.Named k) = grind (arith, common_steps)
same_as_itself (type.Fun k) = grind (arith, common_steps)

pub same_by : (a b : Ty) → a ≡ b → same_type a b ≡ true
same_by a b e = rw e (same_as_itself b)

-- ---- numbers

pub equal_passes : (m n : ℕ) → m ≡ n → (m == n) ≡ true
equal_passes m n e = grind (arith, common_steps)

pub equal_passed : (m n : ℕ) → (m == n) ≡ true → m ≡ n
equal_passed m n e = grind (arith, common_steps)

pub at_most_passes : (m n : ℕ) → m ≤ n → nat_le m n ≡ true
at_most_passes m n e = grind (arith, common_steps)

pub at_most_passed : (m n : ℕ) → nat_le m n ≡ true → m ≤ n
at_most_passed m n e = grind (arith, common_steps)

-- ---- two of them

and_passes : (b c : Bool) → b ≡ true → c ≡ true → (b && c) ≡ true
and_passes b c p q = rw (p, q) refl

and_passed : (b c : Bool) → (b && c) ≡ true → (b ≡ true) × (c ≡ true)
and_passed true c e = (refl, e)
and_passed false c e = cc

or_passed : (b c : Bool) → (b || c) ≡ true → (b ≡ true) ⊎ (c ≡ true)
or_passed true c e = inl refl
or_passed false c e = inr e

left_passes : (b c : Bool) → b ≡ true → (b || c) ≡ true
left_passes b c p = rw p refl

right_passes : (b c : Bool) → c ≡ true → (b || c) ≡ true
right_passes true c p = refl
right_passes false c p = p

module _ (a b : Test) where
  pub both_passes : a.is × b.is → (a.test && b.test) ≡ true
  both_passes h = and_passes a.test b.test (a.passes h.0) (b.passes h.1)

  pub both_passed : (a.test && b.test) ≡ true → a.is × b.is
  both_passed e = let p = and_passed a.test b.test e in (a.passed p.0, b.passed p.1)

  pub either_passes : a.is ⊎ b.is → (a.test || b.test) ≡ true
  either_passes (inl h) = left_passes a.test b.test (a.passes h)
  either_passes (inr h) = right_passes a.test b.test (b.passes h)

  one_of : (a.test ≡ true) ⊎ (b.test ≡ true) → a.is ⊎ b.is
  one_of (inl e) = inl (a.passed e)
  one_of (inr e) = inr (b.passed e)

  pub either_passed : (a.test || b.test) ≡ true → a.is ⊎ b.is
  either_passed e = one_of (or_passed a.test b.test e)
