use Rattle.std.proofs.Common.{◌≡◌, ◌++◌, drop}
use Rattle.own_paths.specs.Ops.{ended}
use Rattle.own_uses.proofs.bindings.ended.Given as goal

abbrev pub invariant-loop-number : goal.invariant-loop-number
invariant-loop-number l = l.row ++ ended l.bindings (drop l.number-index l.numbers) ≡ ended l.bindings l.numbers
