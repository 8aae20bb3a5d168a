-- Sets of numbers as words of 64 bits.
use Rattle.std.specs.Prelude.{◌≡◌, ℕ, zero, suc, ◌+◌, ◌-◌, ◌/◌, ◌%◌, ◌^◌, ◌==◌, Bool, List, [], ◌∷◌, slice_index}
use Rattle.std.specs.Int.{bit_at}

abbrev pub bit_of : List ℕ → ℕ → ℕ
bit_of set i = bit_at (slice_index set (i / 64)) (i % 64)

unfoldable pub Has : List ℕ → ℕ → Type 0
Has set i = bit_of set i ≡ 1

-- how far the words are from being full
unfoldable pub room : List ℕ → ℕ
room [] = 0
room (w ∷ ws) = (2 ^ 64 - w) + room ws

-- whether each of so many numbers from i on is in the set
abbrev pub truths_from : ℕ → ℕ → List ℕ → List Bool
truths_from i zero set = []
truths_from i (suc count) set = (bit_of set i == 1) ∷ truths_from (suc i) count set

abbrev pub truths : ℕ → List ℕ → List Bool
truths count set = truths_from 0 count set
