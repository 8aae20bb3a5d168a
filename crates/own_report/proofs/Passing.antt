-- The place of an offset, by that of the one before it.
use Rattle.std.proofs.Common.{◌≡◌, ℕ, zero, suc, ◌+◌, ◌≤◌, ◌<◌, ◌==◌, ◌&&◌, nat_le, Bool, true, false, if◌then◌else◌, List, [], ◌∷◌, length, ap, sym, arith, add-one, slice_get, get_or, Option, Some, None}
use Rattle.own_report.specs.Place.{place_from, place_at, place_after, first_of, next_line, next_column, after_return}
use Rattle.own_report.specs.declared.place.LineColumn.{LineColumn}
use Rattle.own_report.proofs.PlaceSteps.{first_at}

-- ---- a byte passes a line or a column at most

record IsNear (p q : LineColumn) : Type 0 where
  line : q.line ≤ p.line + 1
  column : q.column ≤ p.column + 1

near_if : (t : Bool) (p a b : LineColumn) → IsNear p a → IsNear p b → IsNear p (if t then a else b)
near_if true p a b first second = first
near_if false p a b first second = second

same_near : (p : LineColumn) → IsNear p p
same_near p = record { line = omega arith; column = omega arith }

line_near : (p : LineColumn) → IsNear p (next_line p)
line_near p = record { line = omega arith; column = omega arith }

column_near : (p : LineColumn) → IsNear p (next_column p)
column_near p = record { line = omega arith; column = omega arith }

return_near : (next : Option ℕ) (p : LineColumn) → IsNear p (after_return next p)
return_near None p = line_near p
return_near (Some next) p = near_if (next == 10) p (next_column p) (next_line p) (column_near p) (line_near p)

after_near : (p : LineColumn) (b : ℕ) (next : Option ℕ) → IsNear p (place_after p b next)
unfolding place_after
after_near p b next =
    near_if (b == 10) p (next_line p) _ (line_near p)
    (near_if (b == 13) p (after_return next p) _ (return_near next p)
    (near_if (nat_le 128 b && nat_le b 191) p p (next_column p) (same_near p) (column_near p)))

pub record IsWithin (n : ℕ) (p q : LineColumn) : Type 0 where
  pub line : q.line ≤ p.line + n
  pub column : q.column ≤ p.column + n

from_within : (p : LineColumn) (text : List ℕ) (n : ℕ) → IsWithin n p (place_from p text n)
from_within p text zero = record { line = omega arith; column = omega arith }
from_within p [] (suc n) = record { line = omega arith; column = omega arith }
from_within p (b ∷ bs) (suc n) =
    let near = after_near p b (first_of bs) in
    let within = from_within (place_after p b (first_of bs)) bs n in
    record { line = omega (arith, near.line, within.line); column = omega (arith, near.column, within.column) }

pub at_within : (text : List ℕ) (n : ℕ) → IsWithin n (record { line = 1; column = 1 }) (place_at text n)
unfolding place_at
at_within text n = from_within (record { line = 1; column = 1 }) text n

-- ---- one byte more

from_next : (p : LineColumn) (text : List ℕ) (n : ℕ) → n < length text
    → place_from p text (suc n) ≡ place_after (place_from p text n) (get_or text n 0) (slice_get text (suc n))
from_next p [] n within = absurd (omega arith)
from_next p (b ∷ bs) zero within = ap (place_after p b) (first_at bs 0)
from_next p (b ∷ bs) (suc n) within = from_next (place_after p b (first_of bs)) bs n (omega arith)

pub at_next : (text : List ℕ) (n : ℕ) → n < length text
    → place_after (place_at text n) (get_or text n 0) (slice_get text (n + 1)) ≡ place_at text (n + 1)
unfolding place_at
at_next text n within = rw add-one (sym (from_next (record { line = 1; column = 1 }) text n within))
