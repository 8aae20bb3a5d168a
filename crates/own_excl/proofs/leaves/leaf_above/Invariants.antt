use Rattle.std.proofs.Common.{◌≡◌, drop}
use Rattle.own_shapes.specs.Types.{leaves}
use Rattle.own_table.specs.Table.{shape_in_table}
use Rattle.own_uses.specs.Leaves.{one_above}
use Rattle.own_excl.proofs.leaves.leaf_above.Given as goal

abbrev pub invariant-loop-number : goal.invariant-loop-number
invariant-loop-number l = one_above l.fields (drop l.number (leaves (shape_in_table l.table l.ty))) ≡ one_above l.fields (leaves (shape_in_table l.table l.ty))
