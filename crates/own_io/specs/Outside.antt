-- What is told of the outside: how often it failed, and which bytes a sink has been given.
use Rattle.std.specs.Prelude.{ℕ, ◌+◌, ◌<◌, ◌≤◌, ◌⊎◌, ◌==◌, List, ◌++◌, length, min, count_by}

-- the largest number of a count, at which it stands still
abbrev pub MOST_COUNT : ℕ
MOST_COUNT = 18446744073709551615

-- a number cut off at the largest count
abbrev pub cut : ℕ → ℕ
cut n = min n MOST_COUNT

-- the count rose, or stands at its end, where a rise does not show
abbrev pub HasRisen : (old new : ℕ) → Type 0
HasRisen old new = (old < new) ⊎ (MOST_COUNT ≤ new)

-- how many of the bytes end a line
abbrev pub newlines : List ℕ → ℕ
newlines bytes = count_by (λ byte. byte == 10) bytes

-- what a sink tells of the bytes written to it
pub data Told : Type 0 where
  -- nothing
  Nothing : Told
  -- the bytes
  Content : List ℕ → Told
  -- the numbers of bytes and of newlines alone, each cut off
  Counts : (bytes lines : ℕ) → Told

-- what is told once these bytes more were written
abbrev pub told_after : Told → List ℕ → Told
told_after Nothing piece = Nothing
told_after (Content before) piece = Content (before ++ piece)
told_after (Counts bytes lines) piece = Counts (cut (bytes + length piece)) (cut (lines + newlines piece))
