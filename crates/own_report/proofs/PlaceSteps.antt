-- Going over a text byte by byte.
use Rattle.std.proofs.Common.{◌≡◌, ℕ, zero, suc, ◌+◌, ◌-◌, ◌≤◌, ◌<◌, List, [], ◌∷◌, length, drop, refl, ap, ap₂, sym, ◌∙◌, arith, add-one, slice_get, get_or}
use Rattle.std.proofs.Math.Nat.{sub-zero}
use Rattle.own_report.specs.Place.{place_from, place_at, place_after, first_of}
use Rattle.own_report.specs.declared.place.LineColumn.{LineColumn}

-- the byte at an index, and those after it
pub drop_at : (text : List ℕ) (index : ℕ) → index < length text → drop index text ≡ get_or text index 0 ∷ drop (suc index) text
drop_at [] index within = absurd (omega arith)
drop_at (b ∷ bs) zero within = refl
drop_at (b ∷ bs) (suc index) within = drop_at bs index (omega arith)

pub first_at : (text : List ℕ) (index : ℕ) → first_of (drop index text) ≡ slice_get text index
first_at [] zero = refl
first_at [] (suc index) = refl
first_at (b ∷ bs) zero = refl
first_at (b ∷ bs) (suc index) = first_at bs index

-- after so many bytes of those before the offset, this is the place
pub record IsOn (text : List ℕ) (at index : ℕ) (place : LineColumn) : Type 0 where
  pub line : place.line ≤ index + 1
  pub column : place.column ≤ index + 1
  pub rest : place_from place (drop index text) (at - index) ≡ place_at text at

pub begins : (text : List ℕ) (at : ℕ) → IsOn text at 0 (record { line = 1; column = 1 })
unfolding place_at
begins text at = record { line = omega arith; column = omega arith; rest = rw (sub-zero at) refl }

pub goes_on : (text : List ℕ) (at index : ℕ) (place : LineColumn) → index < at → index < length text → IsOn text at index place
    → (next : LineColumn) → next ≡ place_after place (get_or text index 0) (slice_get text (index + 1)) → next.line ≤ place.line + 1 → next.column ≤ place.column + 1
    → IsOn text at (index + 1) next
goes_on text at index place more within on next is line column = record {
  line = omega arith;
  column = omega arith;
  rest =
      let left : at - index ≡ suc (at - suc index) = omega arith in
      let ahead : slice_get text (index + 1) ≡ first_of (drop (suc index) text) = rw (add-one index) (sym (first_at text (suc index))) in
      let after : next ≡ place_after place (get_or text index 0) (first_of (drop (suc index) text)) = is ∙ ap (place_after place (get_or text index 0)) ahead in
      rw (add-one index) (ap (λ p. place_from p (drop (suc index) text) (at - suc index)) after ∙ sym (ap₂ (place_from place) (drop_at text index within) left) ∙ on.rest);
}

pub arrives : (text : List ℕ) (at index : ℕ) (place : LineColumn) → at ≤ index → IsOn text at index place → place ≡ place_at text at
arrives text at index place over on = let none : at - index ≡ 0 = omega arith in rw none at on.rest

-- past the end of a text the place stays
pub stays : (place : LineColumn) (text : List ℕ) (at : ℕ) → length text ≤ at → place_from place text (length text) ≡ place_from place text at
stays place [] zero past = refl
stays place [] (suc at) past = refl
stays place (b ∷ bs) zero past = absurd (omega arith)
stays place (b ∷ bs) (suc at) past = stays (place_after place b (first_of bs)) bs at (omega arith)

pub place_at-past_end : (text : List ℕ) (at : ℕ) → length text ≤ at → place_at text (length text) ≡ place_at text at
unfolding place_at
place_at-past_end text at past = stays (record { line = 1; column = 1 }) text at past
