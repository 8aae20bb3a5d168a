-- What a sink in memory holds, and which of its calls fail.
use Rattle.std.specs.Prelude.{ℕ, ◌+◌, ◌-◌, nat_le, min, Bool, ◌||◌, List, length}
use Rattle.own_io.specs.Plan.{is_listed}

-- the bytes written, how many it has room for, the numbers of the calls that fail, and how many calls
-- and faults there were
pub record Recording : Type 0 where
  pub written : List ℕ
  pub most : ℕ
  pub failing : List ℕ
  pub calls : ℕ
  pub faults : ℕ

-- whether the next write fails: it is one of those that do, or no byte is free
abbrev pub fails_next : Recording → Bool
fails_next sink = is_listed sink.failing (sink.calls + 1) || nat_le sink.most (length sink.written)

-- how many bytes of a piece there is room for
abbrev pub room_for : Recording → List ℕ → ℕ
room_for sink piece = min (length piece) (sink.most - length sink.written)
