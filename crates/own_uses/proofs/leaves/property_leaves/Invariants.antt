use Rattle.std.proofs.Common.{◌≡◌, ◌≤◌, ◌+◌, ◌-◌, ◌^◌, length, drop}
use Rattle.own_shapes.specs.Types.{leaves_from, shapes_of, field_types}
use Rattle.own_table.specs.Table.{shape_in_table}
use Rattle.own_uses.specs.Saturating.{held}
use Rattle.own_uses.proofs.leaves.property_leaves.Given as goal

abbrev pub invariant-loop-property : goal.invariant-loop-property
invariant-loop-property l = record {
  fits : l.sum ≤ 2 ^ 64 - 1;
  sum : held (l.sum + length (leaves_from l.property-index (shapes_of (shape_in_table l.table) (field_types (drop l.property-index l.properties)))))
      ≡ held (length (leaves_from 0 (shapes_of (shape_in_table l.table) (field_types l.properties))));
}
