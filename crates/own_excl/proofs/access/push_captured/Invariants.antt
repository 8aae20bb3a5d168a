use Rattle.std.proofs.Common.{◌≡◌, ◌++◌, drop}
use Rattle.own_paths.specs.Fixed.{captured_at}
use Rattle.own_within.specs.View.{captured_seen}
use Rattle.own_excl.specs.View.{accesses_view}
use Rattle.own_excl.proofs.access.push_captured.Given as goal

abbrev pub invariant-loop-capture : goal.invariant-loop-capture
invariant-loop-capture l =
    accesses_view l.held.items ++ captured_at l.at (captured_seen (drop l.capture-index l.captured)) ≡ accesses_view l.fn.held.items ++ captured_at l.at (captured_seen l.captured)
