use Rattle.std.proofs.Common.{◌≡◌, ◌*◌, ◌≤◌, Some, drop}
use Rattle.own_tree.specs.declared.limits.TheConstants.{MOST_TYPE_SLOTS}
use Rattle.own_table.specs.Extents.{plus, sum_of_parts}
use Rattle.own_shapes.specs.Types.{field_types}
use Rattle.own_table.proofs.extent.fields_slots.Given as goal

abbrev pub invariant-loop-field : goal.invariant-loop-field
invariant-loop-field l = record {
  value : plus (Some l.sum) (sum_of_parts l.known (field_types (drop l.field-index l.fields))) ≡ sum_of_parts l.known (field_types l.fields);
  small : l.sum ≤ MOST_TYPE_SLOTS * l.field-index;
}
