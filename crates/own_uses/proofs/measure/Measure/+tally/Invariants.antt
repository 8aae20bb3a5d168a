use Rattle.std.proofs.Common.{◌≡◌, ◌≤◌, length, map, drop}
use Rattle.own_tree.specs.OpSource.{in_order}
use Rattle.own_tree.specs.OpView.{op_view}
use Rattle.own_uses.specs.Tally.{of_op, of_end, tally}
use Rattle.own_uses.proofs.measure.Measure.+tally.Given as goal

abbrev pub invariant-tally_all-loop-left : goal.invariant-tally_all-loop-left
invariant-tally_all-loop-left l = record {
  all : l.all ≡ tally (of_op l.self) (of_end l.self) (in_order (map op_view (drop l.left l.trees)));
  low : l.left ≤ length l.trees;
}

abbrev pub decreases-tally_all-loop-left : goal.decreases-tally_all-loop-left
decreases-tally_all-loop-left l = l.left
