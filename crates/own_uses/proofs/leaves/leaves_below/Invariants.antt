use Rattle.std.proofs.Common.{◌≡◌, ◌+◌, ◌≤◌, drop}
use Rattle.own_shapes.specs.Types.{leaves}
use Rattle.own_table.specs.Table.{shape_in_table}
use Rattle.own_uses.specs.Leaves.{count_below}
use Rattle.own_uses.proofs.leaves.leaves_below.Given as goal

abbrev pub invariant-loop-number : goal.invariant-loop-number
invariant-loop-number l = record {
  few : l.count ≤ l.number;
  sum : l.count + count_below l.fields (drop l.number (leaves (shape_in_table l.table l.ty))) ≡ count_below l.fields (leaves (shape_in_table l.table l.ty));
}
