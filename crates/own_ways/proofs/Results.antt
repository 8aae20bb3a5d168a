-- What an operation gives is an `Int`.
use Rattle.std.proofs.Common.{◌≡◌, ℕ, zero, suc, ◌<◌, ◌≤◌, ◌^◌, ◌%◌, Bool, true, false, if◌then◌else◌, ◌==◌, unsigned_abs, refl, subst, arith}
use Rattle.std.specs.Prelude.{ℤ, pos, negsuc, neg_ℤ, ◌+ℤ◌, ◌-ℤ◌, ◌*ℤ◌, int_div, int_rem, nat_abs}
use Rattle.std.proofs.lemmas.Int.{ints}
use Rattle.std.proofs.Math.Nat.{mod-le}
use Rattle.own_tree.specs.declared.arithmetic.Arith.TheVariants.{Add, Sub, Mul, Div, Rem, Neg}
use Rattle.own_ways.specs.Exact.{Gives, Fails, given_if, is_int}
use Rattle.own_ways.specs.Laws.{ExactResultsAreInts}

pub int_above : (n : ℕ) → n < 2 ^ 63 → is_int (pos n) ≡ true
int_above n lt = grind (arith, ints)

pub int_below : (n : ℕ) → n ≤ 2 ^ 63 → is_int (neg_ℤ (pos n)) ≡ true
int_below zero le = refl
int_below (suc n) le = grind (arith, ints)

given : (t x z : ℤ) → (is_int t ≡ true → is_int x ≡ true) → given_if t x ≡ Gives z → is_int z ≡ true
given t x z int e = go (is_int t) int e
  where
    go : (r : Bool) → (r ≡ true → is_int x ≡ true) → (if r then Gives x else Fails 1) ≡ Gives z → is_int z ≡ true
    go true i h = let same : x ≡ z = cc in subst (λ w. is_int w ≡ true) same (i refl)
    go false i h = absurd cc

divided : (y t x z : ℤ) → (is_int t ≡ true → is_int x ≡ true) → (if unsigned_abs y == 0 then Fails 2 else given_if t x) ≡ Gives z → is_int z ≡ true
divided y t x z int e = go (unsigned_abs y == 0) e
  where
    go : (r : Bool) → (if r then Fails 2 else given_if t x) ≡ Gives z → is_int z ≡ true
    go true h = absurd cc
    go false h = given t x z int h

remainder_is_int : (x y : ℤ) → is_int x ≡ true → is_int (int_rem x y) ≡ true
remainder_is_int (pos a) y i = let le = mod-le a (nat_abs y) in grind (arith, ints)
remainder_is_int (negsuc a) y i =
    let le = mod-le (suc a) (nat_abs y) in
    let small : suc a ≤ 2 ^ 63 = grind (arith, ints) in
    int_below (suc a % nat_abs y) (omega (arith, le, small))

pub exact_is_int : ExactResultsAreInts
exact_is_int Add x y z i e = given (x +ℤ y) (x +ℤ y) z (λ h. h) e
exact_is_int Sub x y z i e = given (x -ℤ y) (x -ℤ y) z (λ h. h) e
exact_is_int Mul x y z i e = given (x *ℤ y) (x *ℤ y) z (λ h. h) e
exact_is_int Div x y z i e = divided y (int_div x y) (int_div x y) z (λ h. h) e
exact_is_int Rem x y z i e = divided y (int_div x y) (int_rem x y) z (λ h. remainder_is_int x y i) e
exact_is_int Neg x y z i e = given (pos 0 -ℤ y) (pos 0 -ℤ y) z (λ h. h) e
