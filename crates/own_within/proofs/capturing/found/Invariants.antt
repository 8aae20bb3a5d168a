use Rattle.std.proofs.Common.{◌≡◌, ◌++◌, drop}
use Rattle.own_within.specs.Marks.{found_from}
use Rattle.own_within.specs.View.{captured_seen}
use Rattle.own_within.proofs.capturing.found.Given as goal

abbrev pub invariant-loop-number : goal.invariant-loop-number
invariant-loop-number l = captured_seen l.row ++ found_from l.number (drop l.number l.seen) ≡ found_from 0 l.seen
