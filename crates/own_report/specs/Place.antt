-- Lines and columns, both from 1.
use Rattle.std.specs.Prelude.{◌≡◌, ℕ, zero, suc, ◌+◌, ◌*◌, ◌==◌, nat_le, ◌&&◌, if◌then◌else◌, List, [], ◌∷◌, Option, Some, None, slice_get}
use Rattle.own_report.specs.declared.place.LineColumn.{LineColumn}
use Rattle.own_report.specs.declared.places.TheConstants.{STRIDE}

abbrev pub next_line : LineColumn → LineColumn
next_line place = record { line = place.line + 1; column = 1 }

abbrev pub next_column : LineColumn → LineColumn
next_column place = record { line = place.line; column = place.column + 1 }

abbrev pub first_of : List ℕ → Option ℕ
first_of [] = None
first_of (byte ∷ bytes) = Some byte

-- a CR ends its line, unless an LF follows, which stands on the line that it ends
abbrev pub after_return : Option ℕ → LineColumn → LineColumn
after_return None place = next_line place
after_return (Some next) place = if next == 10 then next_column place else next_line place

-- The place after a byte: LF ends a line, and each scalar takes one column, at its first byte.
unfoldable pub place_after : LineColumn → ℕ → Option ℕ → LineColumn
place_after place byte next =
    if byte == 10 then next_line place
    else if byte == 13 then after_return next place
    else if nat_le 128 byte && nat_le byte 191 then place
    else next_column place

-- the place after so many bytes, from a place on
abbrev pub place_from : LineColumn → List ℕ → ℕ → LineColumn
place_from place bytes zero = place
place_from place [] (suc n) = place
place_from place (byte ∷ bytes) (suc n) = place_from (place_after place byte (first_of bytes)) bytes n

unfoldable pub place_at : List ℕ → ℕ → LineColumn
place_at text offset = place_from (record { line = 1; column = 1 }) text offset

-- the places of every so many bytes
abbrev pub AreKnown : List ℕ → List LineColumn → Type 0
AreKnown text known = (k : ℕ) (place : LineColumn) → slice_get known k ≡ Some place → place ≡ place_at text (k * STRIDE)
