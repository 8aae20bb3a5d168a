-- What a sink that counts holds.
use Rattle.std.specs.Prelude.{ℕ, ◌≡◌, []}
use Rattle.std.proofs.Common.{ap₂, arith}
use Rattle.own_io.specs.Outside.{Told, Counts, told_after, cut}

-- how many bytes and how many newlines were taken, each up to the largest count
pub record Tally : Type 0 where
  pub bytes : ℕ
  pub lines : ℕ

abbrev pub told_of : Tally → Told
told_of tally = Counts (cut tally.bytes) (cut tally.lines)

-- what is told is cut off already
pub told_of-nothing : (tally : Tally) → told_after (told_of tally) [] ≡ told_of tally
told_of-nothing tally = ap₂ Counts (omega arith) (omega arith)
