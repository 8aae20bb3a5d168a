-- What the machine makes of the bits of numbers of Int.
use Rattle.std.proofs.Common.{◌≡◌, ℕ, zero, suc, ◌+◌, ◌*◌, ◌/◌, ◌%◌, ◌^◌, ◌<◌, ◌≤◌, Bool, true, false, List, [], ◌∷◌, Some, refl, ap, subst, arith, sym, ◌∙◌, ◌++◌, length}
use Rattle.std.specs.Prelude.{ℤ, pos, negsuc, ◌==◌, not, slice_get, slice_set, map, replicate, ◌+ℤ◌, ◌-ℤ◌, ◌*ℤ◌}
use Rattle.std.specs.Int.{w64, cast_signed, int_wrap}
use Rattle.std.proofs.lemmas.Int.{ints, of_z-to_z, wrapping_add-bits, wrapping_sub-bits, wrapping_mul-bits}
use Rattle.own_tree.specs.declared.typed.Comparison.{Comparison}
use Rattle.own_tree.specs.declared.typed.Comparison.TheVariants as comparison
use Rattle.wasm_form.specs.declared.types.Value.{Value}
use Rattle.wasm_form.specs.declared.types.Value.TheVariants.{I32, I64}
use Rattle.wasm_form.specs.Integers.{ieqz, ieq, ine, ilt_s, ile_s, igt_s, ige_s, iadd, isub, imul}
use Rattle.core_form.specs.CoreRun.{is_zero}
use Rattle.core_form.specs.CoreRun as core
use Rattle.core_form.specs.CoreSource.{Pieces, words_in}
use Rattle.low_laws.specs.Lower.{bits}
use Rattle.low_laws.specs.declared.places.TheConstants.{LOCALS}
use Rattle.core_form.specs.Sizes.{IsInt, AreInts}
use Rattle.low_laws.specs.Shows.{long, Scratch, locals_of}
use Rattle.low_laws.proofs.Memory.{signed_bits, bits_small}
use Rattle.own_ways.specs.Arithmetic.{compare_ints, same}

-- ---- options

pub some_same : {A : Type 0} (x y : A) → Some x ≡ Some y → x ≡ y
some_same x y e = cc

-- ---- tests

pub zero_bits : (z : ℤ) → IsInt z → ieqz (bits z) ≡ is_zero z
zero_bits (pos zero) h = refl
zero_bits (pos (suc n)) h = grind (arith, ints)
zero_bits (negsuc n) h = grind (arith, ints)

pub same_bits : (x y : ℤ) → IsInt x → IsInt y → ieq (bits x) (bits y) ≡ same x y
same_bits x y hx hy = grind (arith, ints)

abbrev pub machine_compares : Comparison → ℕ → ℕ → Bool
machine_compares comparison.Equal a b = ieq a b
machine_compares comparison.Unequal a b = ine a b
machine_compares comparison.Less a b = ilt_s w64 a b
machine_compares comparison.LessEqual a b = ile_s w64 a b
machine_compares comparison.Greater a b = igt_s w64 a b
machine_compares comparison.GreaterEqual a b = ige_s w64 a b

pub compares_bits : (o : Comparison) (x y : ℤ) → IsInt x → IsInt y → machine_compares o (bits x) (bits y) ≡ compare_ints o x y
compares_bits comparison.Equal x y hx hy = same_bits x y hx hy
compares_bits comparison.Unequal x y hx hy = ap not (same_bits x y hx hy)
compares_bits comparison.Less x y hx hy = rw (signed_bits x hx, signed_bits y hy) refl
compares_bits comparison.LessEqual x y hx hy = rw (signed_bits x hx, signed_bits y hy) refl
compares_bits comparison.Greater x y hx hy = rw (signed_bits x hx, signed_bits y hy) refl
compares_bits comparison.GreaterEqual x y hx hy = rw (signed_bits x hx, signed_bits y hy) refl

-- ---- constants that are Ints

pub natural_is_int : (n : ℕ) → n < 2 ^ 63 → IsInt (pos n)
natural_is_int n lt = grind (arith, ints)

pub natural_bits : (n : ℕ) → n < 2 ^ 63 → bits (pos n) ≡ n
natural_bits n lt = omega (arith, ints)

pub truth_is_int : (b : Bool) → IsInt (core.truth b)
truth_is_int true = refl
truth_is_int false = refl

-- ---- addresses: the first byte of a word

pub eight : (n k : ℕ) → (n % 8 == 0) ≡ true → n + 8 * k ≡ 8 * (n / 8 + k)
eight n k h = grind arith

-- ---- lists of locals

pub get_long : (zs : List ℤ) (x : ℕ) (z : ℤ) → slice_get zs x ≡ Some z → slice_get (map long zs) x ≡ Some (long z)
get_long [] x z h = absurd (cc)
get_long (y ∷ zs) zero z h = ap (λ (w : ℤ). Some (long w)) (some_same y z h)
get_long (y ∷ zs) (suc x) z h = get_long zs x z h

pub set_long : (zs : List ℤ) (x : ℕ) (z : ℤ) → slice_set (map long zs) x (long z) ≡ map long (slice_set zs x z)
set_long [] x z = refl
set_long (y ∷ zs) zero z = refl
set_long (y ∷ zs) (suc x) z = ap (λ (vs : List Value). long y ∷ vs) (set_long zs x z)

-- ---- the locals of the machine

-- what comes after so many others
pub past : (ks vs : List Value) (x : ℕ) → slice_get (ks ++ vs) (length ks + x) ≡ slice_get vs x
past [] vs x = ap (slice_get vs) (let e : 0 + x ≡ x = omega arith in e)
past (k ∷ ks) vs x = ap (slice_get (k ∷ ks ++ vs)) (let e : suc (length ks) + x ≡ suc (length ks + x) = omega arith in e) ∙ past ks vs x

pub set_past : (ks vs : List Value) (x : ℕ) (v : Value) → slice_set (ks ++ vs) (length ks + x) v ≡ ks ++ slice_set vs x v
set_past [] vs x v = ap (λ (n : ℕ). slice_set vs n v) (let e : 0 + x ≡ x = omega arith in e)
set_past (k ∷ ks) vs x v = ap (λ (n : ℕ). slice_set (k ∷ ks ++ vs) n v) (let e : suc (length ks) + x ≡ suc (length ks + x) = omega arith in e) ∙ ap (λ (us : List Value). k ∷ us) (set_past ks vs x v)

pub length_kept : (ks : List ℕ) → length (map I64 ks) ≡ length ks
length_kept [] = refl
length_kept (k ∷ ks) = ap suc (length_kept ks)

abbrev pub fixed : ℕ → Scratch → List Value
fixed base x = I32 base ∷ I64 x.one ∷ I64 x.other ∷ I32 x.from ∷ I32 x.to ∷ I32 x.left ∷ map I64 x.kept

pub length_fixed : (base : ℕ) (scratch : Scratch) (x : ℕ) → LOCALS + x ≡ length (fixed base scratch) + x
length_fixed base scratch x = let l = length_kept scratch.kept in let k = scratch.all_kept in omega (arith, l, k)

-- a local word
pub local_there : (base : ℕ) (scratch : Scratch) (x : ℕ) (zs : List ℤ) → slice_get (locals_of base scratch zs) (LOCALS + x) ≡ slice_get (map long zs) x
local_there base scratch x zs = ap (slice_get (locals_of base scratch zs)) (length_fixed base scratch x) ∙ past (fixed base scratch) (map long zs) x

pub local_set : (base : ℕ) (scratch : Scratch) (x : ℕ) (zs : List ℤ) (z : ℤ) → slice_set (locals_of base scratch zs) (LOCALS + x) (long z) ≡ locals_of base scratch (slice_set zs x z)
local_set base scratch x zs z =
    ap (λ (n : ℕ). slice_set (locals_of base scratch zs) n (long z)) (length_fixed base scratch x)
    ∙ set_past (fixed base scratch) (map long zs) x (long z) ∙ ap (λ (vs : List Value). fixed base scratch ++ vs) (set_long zs x z)

-- a local that keeps a word of a print
pub get_kept : (ks : List ℕ) (vs : List Value) (x n : ℕ) → slice_get ks x ≡ Some n → slice_get (map I64 ks ++ vs) x ≡ Some (I64 n)
get_kept [] vs x n h = absurd (cc)
get_kept (k ∷ ks) vs zero n h = ap (λ (w : ℕ). Some (I64 w)) (some_same k n h)
get_kept (k ∷ ks) vs (suc x) n h = get_kept ks vs x n h

pub set_kept : (ks : List ℕ) (vs : List Value) (x n : ℕ) → x < length ks → slice_set (map I64 ks ++ vs) x (I64 n) ≡ map I64 (slice_set ks x n) ++ vs
set_kept [] vs x n lt = absurd (omega (arith, lt))
set_kept (k ∷ ks) vs zero n lt = refl
set_kept (k ∷ ks) vs (suc x) n lt = ap (λ (us : List Value). I64 k ∷ us) (set_kept ks vs x n (omega (arith, lt)))

pub kept_there : (base : ℕ) (scratch : Scratch) (x n : ℕ) (zs : List ℤ) → slice_get scratch.kept x ≡ Some n → slice_get (locals_of base scratch zs) (6 + x) ≡ Some (I64 n)
kept_there base scratch x n zs h = ap (slice_get (locals_of base scratch zs)) (let e : 6 + x ≡ suc (suc (suc (suc (suc (suc x))))) = omega arith in e) ∙ get_kept scratch.kept (map long zs) x n h

pub length_set : (ks : List ℕ) (x n : ℕ) → length (slice_set ks x n) ≡ length ks
length_set [] x n = refl
length_set (k ∷ ks) zero n = refl
length_set (k ∷ ks) (suc x) n = ap suc (length_set ks x n)

-- with another word kept
abbrev pub keeping : Scratch → ℕ → ℕ → Scratch
keeping s x n = record { one = s.one; other = s.other; from = s.from; to = s.to; left = s.left; kept = slice_set s.kept x n; all_kept = length_set s.kept x n ∙ s.all_kept }

pub kept_set : (base : ℕ) (scratch : Scratch) (x n : ℕ) (zs : List ℤ) → x < 32 → slice_set (locals_of base scratch zs) (6 + x) (I64 n) ≡ locals_of base (keeping scratch x n) zs
kept_set base scratch x n zs lt =
    ap (λ (k : ℕ). slice_set (locals_of base scratch zs) k (I64 n)) (let e : 6 + x ≡ suc (suc (suc (suc (suc (suc x))))) = omega arith in e)
    ∙ ap (λ (vs : List Value). I32 base ∷ I64 scratch.one ∷ I64 scratch.other ∷ I32 scratch.from ∷ I32 scratch.to ∷ I32 scratch.left ∷ vs) (set_kept scratch.kept (map long zs) x n (let k = scratch.all_kept in omega (arith, lt, k)))

pub get_within : (ks : List ℕ) (x : ℕ) → x < length ks → (n : ℕ) × (slice_get ks x ≡ Some n)
get_within [] x lt = absurd (omega (arith, lt))
get_within (k ∷ ks) zero lt = (k, refl)
get_within (k ∷ ks) (suc x) lt = get_within ks x (omega (arith, lt))

pub get_set : (ks : List ℕ) (x n : ℕ) → x < length ks → slice_get (slice_set ks x n) x ≡ Some n
get_set [] x n lt = absurd (omega (arith, lt))
get_set (k ∷ ks) zero n lt = refl
get_set (k ∷ ks) (suc x) n lt = get_set ks x n (omega (arith, lt))

pub get_other : (ks : List ℕ) (x y n : ℕ) → y < x → slice_get (slice_set ks x n) y ≡ slice_get ks y
get_other [] x y n lt = refl
get_other (k ∷ ks) zero y n lt = absurd (omega (arith, lt))
get_other (k ∷ ks) (suc x) zero n lt = refl
get_other (k ∷ ks) (suc x) (suc y) n lt = get_other ks x y n (omega (arith, lt))

-- ---- the words of a print

-- on the stack, the last on top
abbrev pub stacked : List ℤ → List Value → List Value
stacked [] vs = vs
stacked (z ∷ zs) vs = stacked zs (long z ∷ vs)

pub record AreWords (ps : Pieces) (zs : List ℤ) : Type 0 where
  pub ints : AreInts zs
  pub all : length zs ≡ words_in ps

-- in their locals, the last in the first
abbrev pub Keeps : List ℤ → List ℕ → Type 0
Keeps [] ks = Unit {0}
Keeps (z ∷ zs) ks = (slice_get ks (length zs) ≡ Some (bits z)) × Keeps zs ks

pub keeps_other : (zs : List ℤ) (ks : List ℕ) (x n : ℕ) → length zs ≤ x → Keeps zs ks → Keeps zs (slice_set ks x n)
keeps_other [] ks x n le h = tt
keeps_other (z ∷ zs) ks x n le h = (get_other ks x (length zs) n (omega (arith, le)) ∙ h.0, keeps_other zs ks x n (omega (arith, le)) h.1)

pub get_int : (zs : List ℤ) (x : ℕ) (z : ℤ) → AreInts zs → slice_get zs x ≡ Some z → IsInt z
get_int [] x z are h = absurd (cc)
get_int (y ∷ zs) zero z are h = subst IsInt (some_same y z h) are.0
get_int (y ∷ zs) (suc x) z are h = get_int zs x z are.1 h

pub set_ints : (zs : List ℤ) (x : ℕ) (z : ℤ) → AreInts zs → IsInt z → AreInts (slice_set zs x z)
set_ints [] x z are h = are
set_ints (y ∷ zs) zero z are h = (h, are.1)
set_ints (y ∷ zs) (suc x) z are h = (are.0, set_ints zs x z are.1 h)

pub zeros_are : (n : ℕ) → map long (replicate n (pos 0)) ≡ replicate n (I64 0)
zeros_are zero = refl
zeros_are (suc n) = ap (λ (vs : List Value). I64 0 ∷ vs) (zeros_are n)

pub zeros_ints : (n : ℕ) → AreInts (replicate n (pos 0))
zeros_ints zero = tt
zeros_ints (suc n) = (refl, zeros_ints n)

-- ---- results modulo 2 ^ 64

signed_is_int : (n : ℕ) → n < 2 ^ 64 → IsInt (cast_signed w64 n)
signed_is_int n lt = grind (arith, ints)

-- the bits n of a number
of_bits : (n : ℕ) (z : ℤ) → n < 2 ^ 64 → cast_signed w64 n ≡ z → (n ≡ bits z) × IsInt z
of_bits n z lt e = (sym (of_z-to_z w64 n lt) ∙ ap bits e, subst IsInt e (signed_is_int n lt))

pub sum_wraps : (x y : ℤ) → IsInt x → IsInt y → (iadd w64 (bits x) (bits y) ≡ bits (int_wrap w64 (x +ℤ y))) × IsInt (int_wrap w64 (x +ℤ y))
sum_wraps x y hx hy = of_bits _ _ (omega arith) (wrapping_add-bits w64 (bits x) (bits y) (bits_small x hx) (bits_small y hy) ∙ ap (λ (a : ℤ). int_wrap w64 (a +ℤ cast_signed w64 (bits y))) (signed_bits x hx) ∙ ap (λ (a : ℤ). int_wrap w64 (x +ℤ a)) (signed_bits y hy))

pub difference_wraps : (x y : ℤ) → IsInt x → IsInt y → (isub w64 (bits x) (bits y) ≡ bits (int_wrap w64 (x -ℤ y))) × IsInt (int_wrap w64 (x -ℤ y))
difference_wraps x y hx hy = of_bits _ _ (omega arith) (wrapping_sub-bits w64 (bits x) (bits y) (bits_small x hx) (bits_small y hy) ∙ ap (λ (a : ℤ). int_wrap w64 (a -ℤ cast_signed w64 (bits y))) (signed_bits x hx) ∙ ap (λ (a : ℤ). int_wrap w64 (x -ℤ a)) (signed_bits y hy))

pub product_wraps : (x y : ℤ) → IsInt x → IsInt y → (imul w64 (bits x) (bits y) ≡ bits (int_wrap w64 (x *ℤ y))) × IsInt (int_wrap w64 (x *ℤ y))
product_wraps x y hx hy = of_bits _ _ (omega arith) (wrapping_mul-bits w64 (bits x) (bits y) (bits_small x hx) (bits_small y hy) ∙ ap (λ (a : ℤ). int_wrap w64 (a *ℤ cast_signed w64 (bits y))) (signed_bits x hx) ∙ ap (λ (a : ℤ). int_wrap w64 (x *ℤ a)) (signed_bits y hy))
