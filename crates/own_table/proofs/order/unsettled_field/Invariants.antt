use Rattle.std.proofs.Common.{◌≡◌, drop}
use Rattle.own_table.specs.Order.{first_unsettled}
use Rattle.own_shapes.specs.Types.{field_types}
use Rattle.own_table.proofs.order.unsettled_field.Given as goal

abbrev pub invariant-loop-field : goal.invariant-loop-field
invariant-loop-field l = first_unsettled l.marks (field_types (drop l.field-index l.fields)) ≡ first_unsettled l.marks (field_types l.fields)
