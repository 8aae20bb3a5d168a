use Rattle.std.proofs.Common.{◌≡◌, drop}
use Rattle.own_table.specs.ByParts.{one_holds}
use Rattle.own_shapes.specs.Types.{field_types}
use Rattle.own_table.proofs.measure.fields_hold.Given as goal

abbrev pub invariant-loop-field : goal.invariant-loop-field
invariant-loop-field l = one_holds l.measures (field_types (drop l.field-index l.fields)) ≡ one_holds l.measures (field_types l.fields)
