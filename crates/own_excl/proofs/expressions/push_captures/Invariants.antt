use Rattle.std.proofs.Common.{◌≡◌, ◌++◌, drop}
use Rattle.own_within.specs.View.{captured_seen}
use Rattle.own_excl.specs.Changes.{captures_changed}
use Rattle.own_excl.specs.View.{changes_view}
use Rattle.own_excl.proofs.expressions.push_captures.Given as goal

abbrev pub invariant-loop-capture : goal.invariant-loop-capture
invariant-loop-capture l =
    changes_view l.changes.items ++ captures_changed l.at (captured_seen (drop l.capture-index l.captured)) ≡ changes_view l.fn.changes.items ++ captures_changed l.at (captured_seen l.captured)
