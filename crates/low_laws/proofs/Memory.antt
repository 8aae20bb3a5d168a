-- Words in linear memory.
use Rattle.std.proofs.Common.{◌≡◌, ℕ, ◌+◌, ◌*◌, ◌≤◌, ◌<◌, ◌^◌, ◌%◌, List, Some, inl, inr, refl, ap, ◌∙◌, arith, length}
use Rattle.std.specs.Prelude.{ℤ, ◌⊎◌, ◌==◌, if◌then◌else◌}
use Rattle.std.specs.Int.{w64, to_le_bytes, cast_signed}
use Rattle.std.proofs.lemmas.Int.{ints}
use Rattle.std.proofs.lemmas.Bool.{eq-eqb, ne_eqb, cases_order}
use Rattle.wasm_form.specs.Steps.{number_at, with_number}
use Rattle.low_laws.specs.Lower.{bits}
use Rattle.core_form.specs.Sizes.{IsInt}
use Rattle.low_laws.specs.Shows.{Holds}
use Rattle.core_form.specs.declared.limits.TheConstants.{AREA}
use Rattle.wasm_laws.proofs.Memory.{kept_long, upper, read_same, read_lower, read_upper}

-- ---- the bits of an Int

pub bits_small : (z : ℤ) → IsInt z → bits z < 2 ^ 64
bits_small z h = grind (arith, ints)

pub bits_whole : (z : ℤ) → IsInt z → bits z % 2 ^ 64 ≡ bits z
bits_whole z h = let l = bits_small z h in omega (arith, l)

pub signed_bits : (z : ℤ) → IsInt z → cast_signed w64 (bits z) ≡ z
signed_bits z h = grind (arith, ints)

-- a store of an Int
pub holds_store : (texts : List ℕ) (words : ℕ → ℤ) (m : List ℕ) (a : ℕ) (z : ℤ) → IsInt z → Holds texts words m → a < AREA → Holds texts (λ b. if b == a then z else words b) (with_number w64 m (8 * a) (bits z))
holds_store texts words m a z whole h lt = record {
  room = let e = kept_long m (8 * a) (bits z) le in let l = h.room in omega (arith, e, l);
  each = λ w l. go w l (cases_order w a);
  whole = λ w. test w (cases_order w a);
  texts_there = (h.texts_there.0, upper m (to_le_bytes w64 (bits z)) (8 * a) refl le (8 * AREA) (omega (arith, lt)) ∙ h.texts_there.1);
}
  where
    le : 8 * a + 8 ≤ length m
    le = let l = h.room in omega (arith, l, lt)

    same : (w : ℕ) → w ≡ a → (if w == a then z else words w) ≡ z
    same w e = rw (eq-eqb w a e) refl

    other : (w : ℕ) → (w ≡ a → ⊥) → (if w == a then z else words w) ≡ words w
    other w n = rw (ne_eqb w a n) refl

    test : (w : ℕ) → (w ≡ a) ⊎ ((w < a) ⊎ (a < w)) → IsInt (if w == a then z else words w)
    test w (inl e) = rw (same w e) whole
    test w (inr (inl l)) = rw (other w (λ e. omega (arith, e, l))) (h.whole w)
    test w (inr (inr l)) = rw (other w (λ e. omega (arith, e, l))) (h.whole w)

    go : (w : ℕ) → w < AREA → (w ≡ a) ⊎ ((w < a) ⊎ (a < w)) → number_at w64 (with_number w64 m (8 * a) (bits z)) (8 * w) ≡ Some (bits (if w == a then z else words w))
    go w l (inl e) = rw (same w e) (ap (λ (x : ℕ). number_at w64 (with_number w64 m (8 * a) (bits z)) (8 * x)) e ∙ read_same m (8 * a) (bits z) le (bits_small z whole))
    go w l (inr (inl q)) = rw (other w (λ e. omega (arith, e, q))) (read_lower m (8 * a) (bits z) le (8 * w) (omega (arith, q)) ∙ h.each w l)
    go w l (inr (inr q)) = rw (other w (λ e. omega (arith, e, q))) (read_upper m (8 * a) (bits z) le (8 * w) (omega (arith, q)) ∙ h.each w l)
