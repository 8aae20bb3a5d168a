use Rattle.std.proofs.Common.{◌≡◌, drop}
use Rattle.own_paths.specs.Fixed.{lies_in_leaf}
use Rattle.own_shapes.specs.Types.{leaves}
use Rattle.own_table.specs.Table.{shape_in_table}
use Rattle.own_leaves.proofs.effects.lies_in_leaf.Given as goal

abbrev pub invariant-loop-k : goal.invariant-loop-k
invariant-loop-k l =
    lies_in_leaf l.place (drop l.k (leaves (shape_in_table l.table l.ty))) ≡ lies_in_leaf l.place (leaves (shape_in_table l.table l.ty))
