use Rattle.std.proofs.Common.{◌≡◌, ◌++◌, drop}
use Rattle.own_paths.specs.Captures.{declared_elsewhere}
use Rattle.own_within.specs.View.{captured_seen}
use Rattle.own_within.proofs.outer.declared_elsewhere.Given as goal

abbrev pub invariant-loop-mention : goal.invariant-loop-mention
invariant-loop-mention l =
    captured_seen l.outer.items ++ declared_elsewhere l.bindings l.body (captured_seen (drop l.mention-index l.mentions))
    ≡ declared_elsewhere l.bindings l.body (captured_seen l.mentions)
