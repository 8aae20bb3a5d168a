use Rattle.std.proofs.Common.{◌≡◌, ℕ, ◌<◌, ◌≤◌, length, drop, get_or, None}
use Rattle.own_within.specs.Marks.{said}
use Rattle.own_within.specs.View.{captured_seen}
use Rattle.own_within.proofs.capturing.noted.Given as goal

abbrev pub invariant-loop-left : goal.invariant-loop-left
invariant-loop-left l = record {
  low : l.left ≤ length l.mentions;
  each : length l.seen.items ≡ l.count;
  said : (k : ℕ) → k < l.count → get_or l.seen.items k None ≡ said k (captured_seen (drop l.left l.mentions));
}

abbrev pub decreases-loop-left : goal.decreases-loop-left
decreases-loop-left l = l.left
