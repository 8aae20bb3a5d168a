-- Counts as a `u64` holds them.
use Rattle.std.specs.Prelude.{ℕ, ◌-◌, ◌^◌, min}

-- One that is larger is held as the largest.
abbrev pub held : ℕ → ℕ
held n = min n (2 ^ 64 - 1)
