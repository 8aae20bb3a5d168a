-- The tests say exactly where a result is an `Int`.
use Rattle.std.proofs.Common.{sym, ◌≡◌, ℕ, zero, suc, ◌*◌, ◌/◌, ◌^◌, ◌<◌, ◌≤◌, ◌≢◌, refl, ap, ◌∙◌, arith, Bool, true, false, Ok, ◌&&◌, ◌==◌, FitsSigned, unsigned_abs}
use Rattle.std.proofs.lemmas.Int.{to_z-of_z, of_z-to_z, quot-rem, rem_below, fits_signed_from_abs, wrapping_sub_is, ints, wrapping_mul-bits, int_wrap_fits}
use Rattle.std.specs.Prelude.{ℤ, pos, negsuc, neg_ℤ, ◌+ℤ◌, ◌-ℤ◌, ◌*ℤ◌, int_div, int_rem}
use Rattle.std.proofs.lemmas.Nat.{div_below}
use Rattle.std.proofs.Math.IntN.{*ℤ_comm}
use Rattle.std.proofs.Math.Nat.{div-le_self, mul-div_cancel_left, zero-div}
use Rattle.std.specs.Int.{w64, cast_signed, cast_unsigned, int_wrap, int_wrapping_sub}
use Rattle.wasm_form.specs.Integers.{ine, ieqz, ieq, ilt_s, igt_s, iadd, isub, imul, idiv_s, irem_s}
use Rattle.own_ways.specs.Exact.{is_int}
use Rattle.own_ways.proofs.Results.{int_above, int_below}
use Rattle.wasm_laws.proofs.Opcodes.{unlike}

abbrev pub signed : ℕ → ℤ
signed n = cast_signed w64 n

pub sum_is_int : (a b : ℕ) → a < 2 ^ 64 → b < 2 ^ 64 → unlike (ilt_s w64 (iadd w64 a b) a) (ilt_s w64 b 0) ≡ false → is_int (signed a +ℤ signed b) ≡ true
sum_is_int a b la lb e = grind (arith, ints)

pub sum_is_none : (a b : ℕ) → a < 2 ^ 64 → b < 2 ^ 64 → unlike (ilt_s w64 (iadd w64 a b) a) (ilt_s w64 b 0) ≡ true → is_int (signed a +ℤ signed b) ≡ false
sum_is_none a b la lb e = grind (arith, ints)

pub sum_bits : (a b : ℕ) → a < 2 ^ 64 → b < 2 ^ 64 → is_int (signed a +ℤ signed b) ≡ true → cast_unsigned w64 (signed a +ℤ signed b) ≡ iadd w64 a b
sum_bits a b la lb e = grind (arith, ints)

pub difference_is_int : (a b : ℕ) → a < 2 ^ 64 → b < 2 ^ 64 → unlike (igt_s w64 (isub w64 a b) a) (ilt_s w64 b 0) ≡ false → is_int (signed a -ℤ signed b) ≡ true
difference_is_int a b la lb e = grind (arith, ints)

pub difference_is_none : (a b : ℕ) → a < 2 ^ 64 → b < 2 ^ 64 → unlike (igt_s w64 (isub w64 a b) a) (ilt_s w64 b 0) ≡ true → is_int (signed a -ℤ signed b) ≡ false
difference_is_none a b la lb e = grind (arith, ints)

pub difference_bits : (a b : ℕ) → a < 2 ^ 64 → b < 2 ^ 64 → is_int (signed a -ℤ signed b) ≡ true → cast_unsigned w64 (signed a -ℤ signed b) ≡ isub w64 a b
difference_bits a b la lb e = grind (arith, ints)

pub negation_is_int : (b : ℕ) → b < 2 ^ 64 → ieq b 9223372036854775808 ≡ false → is_int (pos 0 -ℤ signed b) ≡ true
negation_is_int b lb e = grind (arith, ints)

pub negation_is_none : (b : ℕ) → b < 2 ^ 64 → ieq b 9223372036854775808 ≡ true → is_int (pos 0 -ℤ signed b) ≡ false
negation_is_none b lb e = grind (arith, ints)

pub negation_bits : (b : ℕ) → b < 2 ^ 64 → is_int (pos 0 -ℤ signed b) ≡ true → cast_unsigned w64 (pos 0 -ℤ signed b) ≡ isub w64 0 b
negation_bits b lb e = grind (arith, ints)

-- ---- quotients

pub signed_fits : (a : ℕ) → a < 2 ^ 64 → FitsSigned w64 (signed a)
signed_fits a la = record { sfits = grind (arith, ints) }

-- all but that of the least `Int` by -1
quotient : (x y : ℤ) → FitsSigned w64 x → (x ≡ negsuc 9223372036854775807 → y ≡ negsuc 0 → ⊥) → is_int (int_div x y) ≡ true
quotient (pos a) (pos b) f other = let h = f.sfits in int_above (a / b) (omega (arith, h, div-le_self a b))
quotient (pos a) (negsuc b) f other = let h = f.sfits in int_below (a / suc b) (omega (arith, h, div-le_self a (suc b)))
quotient (negsuc a) (pos b) f other = let h = f.sfits in int_below (suc a / b) (omega (arith, h, div-le_self (suc a) b))
quotient (negsuc a) (negsuc zero) f other = let h = f.sfits in let ne : a ≢ 9223372036854775807 = λ e. other (ap negsuc e) refl in int_above (suc a / 1) (omega (arith, h, ne))
quotient (negsuc a) (negsuc (suc b)) f other = let h = f.sfits in int_above (suc a / suc (suc b)) (div_below (suc a) (suc (suc b)) (2 ^ 63) (omega arith) (omega (arith, h)))

pub quotient_is_int : (a b : ℕ) → a < 2 ^ 64 → b < 2 ^ 64 → (ieq a 9223372036854775808 && ieq b 18446744073709551615) ≡ false → is_int (int_div (signed a) (signed b)) ≡ true
quotient_is_int a b la lb e = quotient (signed a) (signed b) (signed_fits a la) (λ x y. grind (arith, ints))

pub quotient_is_none : (a b : ℕ) → (ieq a 9223372036854775808 && ieq b 18446744073709551615) ≡ true → is_int (int_div (signed a) (signed b)) ≡ false
quotient_is_none a b e =
    let ea : a ≡ 9223372036854775808 = grind arith in
    let eb : b ≡ 18446744073709551615 = grind arith in
    rw (ea, eb) refl

pub divisor_is_zero : (b : ℕ) → b < 2 ^ 64 → (r : Bool) → ieqz b ≡ r → (unsigned_abs (signed b) == 0) ≡ r
divisor_is_zero b lb true e = grind (arith, ints)
divisor_is_zero b lb false e = grind (arith, ints)

pub divides : (a b : ℕ) → ieqz b ≡ false → (ieq a 9223372036854775808 && ieq b 18446744073709551615) ≡ false → idiv_s w64 a b ≡ Ok (cast_unsigned w64 (int_div (signed a) (signed b)))
unfolding idiv_s
divides a b z e = rw (z, e) refl

pub leaves : (a b : ℕ) → ieqz b ≡ false → irem_s w64 a b ≡ Ok (cast_unsigned w64 (int_rem (signed a) (signed b)))
unfolding irem_s
leaves a b z = rw z refl

-- ---- products

neg_over : (n d : ℕ) → int_div (neg_ℤ (pos n)) (pos (suc d)) ≡ neg_ℤ (pos (n / suc d))
neg_over zero d = let z = zero-div (suc d) in rw z refl
neg_over (suc n) d = refl

neg_under : (n d : ℕ) → int_div (neg_ℤ (pos n)) (negsuc d) ≡ pos (n / suc d)
neg_under zero d = let z = zero-div (suc d) in rw z refl
neg_under (suc n) d = refl

-- the product divides back
divides_back : (x y : ℤ) → 0 < unsigned_abs x → int_div (x *ℤ y) x ≡ y
divides_back (pos zero) y lt = absurd (omega arith)
divides_back (pos (suc a)) (pos b) lt = ap pos (mul-div_cancel_left b {n = suc a} lt)
divides_back (pos (suc a)) (negsuc b) lt = neg_over (suc a * suc b) a ∙ ap (λ n. neg_ℤ (pos n)) (mul-div_cancel_left (suc b) {n = suc a} lt)
divides_back (negsuc a) (pos b) lt = neg_under (suc a * b) a ∙ ap pos (mul-div_cancel_left b {n = suc a} lt)
divides_back (negsuc a) (negsuc b) lt = ap (λ n. neg_ℤ (pos n)) (mul-div_cancel_left (suc b) {n = suc a} lt)

-- the product of the bits is the product but for the numbers beyond `Int`
product_wraps : (a b : ℕ) → a < 2 ^ 64 → b < 2 ^ 64 → signed (imul w64 a b) ≡ int_wrap w64 (signed a *ℤ signed b)
product_wraps a b la lb = wrapping_mul-bits w64 a b la lb

is_int_fits : (z : ℤ) → is_int z ≡ true → FitsSigned w64 z
is_int_fits z e = record { sfits = grind (arith, ints) }

fits_is_int : (z : ℤ) → FitsSigned w64 z → is_int z ≡ true
fits_is_int z f = let h = f.sfits in grind (arith, ints)

product_exact : (a b : ℕ) → a < 2 ^ 64 → b < 2 ^ 64 → is_int (signed a *ℤ signed b) ≡ true → signed (imul w64 a b) ≡ signed a *ℤ signed b
product_exact a b la lb int = product_wraps a b la lb ∙ int_wrap_fits w64 (signed a *ℤ signed b) (is_int_fits (signed a *ℤ signed b) int)

-- what is taken off a number without a change is nothing
nothing_off : (s t : ℤ) → FitsSigned w64 s → FitsSigned w64 t → int_wrapping_sub w64 s t ≡ s → t ≡ pos 0
nothing_off s t f g e = let h = f.sfits in let k = g.sfits in grind (arith, ints)

abs_pos : (a : ℕ) → a < 2 ^ 64 → ieqz a ≡ false → 0 < unsigned_abs (signed a)
abs_pos a la z = let e = divisor_is_zero a la false z in grind (arith, e)

abs_most : (a : ℕ) → a < 2 ^ 64 → unsigned_abs (signed a) ≤ 2 ^ 63
abs_most a la = grind (arith, ints)

product_below : (a b : ℕ) → imul w64 a b < 2 ^ 64
product_below a b = grind arith

moved : (p t s : ℤ) → p +ℤ t ≡ s → p ≡ s -ℤ t
moved p t s e = omega (arith, ints)

nothing_left : (p t s : ℤ) → p +ℤ t ≡ s → t ≡ pos 0 → p ≡ s
nothing_left p t s e z = omega (arith, ints)

minus_one_times : (b : ℕ) → b < 2 ^ 64 → ieq b 9223372036854775808 ≡ false → ieq (imul w64 18446744073709551615 b) 9223372036854775808 ≡ false
minus_one_times b lb e = grind arith

-- by -1 only the least `Int` has a product with the bits of the least `Int`
pub product_by_minus_one : (a b : ℕ) → b < 2 ^ 64 → (ieq a 18446744073709551615 && ieq b 9223372036854775808) ≡ false → (ieq (imul w64 a b) 9223372036854775808 && ieq a 18446744073709551615) ≡ false
product_by_minus_one a b lb e = go (ieq a 18446744073709551615) refl
  where
    go : (r : Bool) → ieq a 18446744073709551615 ≡ r → (ieq (imul w64 a b) 9223372036854775808 && ieq a 18446744073709551615) ≡ false
    go false f = grind (arith, f)
    go true f =
        let ea : a ≡ 18446744073709551615 = grind arith in
        let eb : ieq b 9223372036854775808 ≡ false = ap (λ p. p && ieq b 9223372036854775808) (sym f) ∙ e in
        let times = minus_one_times b lb eb in
        rw (ea, times) refl

pub product_bits : (a b : ℕ) → a < 2 ^ 64 → b < 2 ^ 64 → is_int (signed a *ℤ signed b) ≡ true → cast_unsigned w64 (signed a *ℤ signed b) ≡ imul w64 a b
product_bits a b la lb int = ap (cast_unsigned w64) (sym (product_exact a b la lb int)) ∙ of_z-to_z w64 (imul w64 a b) (product_below a b)

pub product_is_int : (a b : ℕ) → a < 2 ^ 64 → b < 2 ^ 64 → ieqz a ≡ false → (ieq (imul w64 a b) 9223372036854775808 && ieq a 18446744073709551615) ≡ false
    → ine (cast_unsigned w64 (int_div (signed (imul w64 a b)) (signed a))) b ≡ false → is_int (signed a *ℤ signed b) ≡ true
product_is_int a b la lb z other e =
    let r = imul w64 a b in
    let s = signed r in
    let q = int_div s (signed a) in
    let t = int_rem s (signed a) in
    let same : cast_unsigned w64 q ≡ b = grind (arith, e) in
    let int = quotient_is_int r a (product_below a b) la other in
    let back : q ≡ signed b = sym (to_z-of_z w64 q (is_int_fits q int)) ∙ ap (cast_signed w64) same in
    let whole : signed a *ℤ signed b +ℤ t ≡ s = ap (λ p. p +ℤ t) (*ℤ_comm (signed a) (signed b) ∙ ap (λ y. y *ℤ signed a) (sym back)) ∙ quot-rem s (signed a) in
    let small = rem_below s (signed a) (abs_pos a la z) in
    let most = abs_most a la in
    let fits : FitsSigned w64 t = fits_signed_from_abs w64 t (omega (arith, small, most)) in
    let s_fits = signed_fits r (product_below a b) in
    let wraps : int_wrapping_sub w64 s t ≡ s = wrapping_sub_is w64 s t s_fits fits ∙ ap (int_wrap w64) (sym (moved (signed a *ℤ signed b) t s whole)) ∙ sym (product_wraps a b la lb) in
    let exact = nothing_left (signed a *ℤ signed b) t s whole (nothing_off s t s_fits fits wraps) in
    ap is_int exact ∙ fits_is_int s s_fits

pub product_is_none : (a b : ℕ) → a < 2 ^ 64 → b < 2 ^ 64 → ieqz a ≡ false → ine (cast_unsigned w64 (int_div (signed (imul w64 a b)) (signed a))) b ≡ true → is_int (signed a *ℤ signed b) ≡ false
product_is_none a b la lb z e = go (is_int (signed a *ℤ signed b)) refl
  where
    go : (r : Bool) → is_int (signed a *ℤ signed b) ≡ r → r ≡ false
    go false f = refl
    go true f =
        let back : cast_unsigned w64 (int_div (signed (imul w64 a b)) (signed a)) ≡ b = ap (λ s. cast_unsigned w64 (int_div s (signed a))) (product_exact a b la lb f) ∙ ap (cast_unsigned w64) (divides_back (signed a) (signed b) (abs_pos a la z)) ∙ of_z-to_z w64 b lb in
        grind (arith, e, back)

zero_times : (y : ℤ) → pos 0 *ℤ y ≡ pos 0
zero_times (pos b) = let e : 0 * b ≡ 0 = omega arith in rw e refl
zero_times (negsuc b) = let e : 0 * suc b ≡ 0 = omega arith in rw e refl

pub product_of_zero : (a b : ℕ) → ieqz a ≡ true → is_int (signed a *ℤ signed b) ≡ true
product_of_zero a b z =
    let e : a ≡ 0 = grind arith in
    ap (λ n. is_int (signed n *ℤ signed b)) e ∙ ap is_int (zero_times (signed b))

pub product_of_least : (a b : ℕ) → (ieq a 18446744073709551615 && ieq b 9223372036854775808) ≡ true → is_int (signed a *ℤ signed b) ≡ false
product_of_least a b e =
    let ea : a ≡ 18446744073709551615 = grind arith in
    let eb : b ≡ 9223372036854775808 = grind arith in
    rw (ea, eb) refl
