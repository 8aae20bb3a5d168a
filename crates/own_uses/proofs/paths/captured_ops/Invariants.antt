use Rattle.std.proofs.Common.{◌≡◌, ◌++◌, map, drop}
use Rattle.own_tree.specs.OpView.{op_view}
use Rattle.own_uses.specs.Building.{captured_ops}
use Rattle.own_uses.proofs.paths.captured_ops.Given as goal

abbrev pub invariant-loop-capture : goal.invariant-loop-capture
invariant-loop-capture l = map op_view l.trees ++ captured_ops l.at (drop l.capture-index l.captured) ≡ captured_ops l.at l.captured
