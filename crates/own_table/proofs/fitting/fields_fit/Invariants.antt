use Rattle.std.proofs.Common.{◌≡◌, drop}
use Rattle.std.specs.List.{list_all}
use Rattle.own_shapes.specs.Types.{field_types}
use Rattle.own_table.specs.Fitting.{is_content}
use Rattle.own_table.proofs.fitting.fields_fit.Given as goal

abbrev pub invariant-loop-field : goal.invariant-loop-field
invariant-loop-field l = list_all (is_content l.types l.noncopyable) (field_types (drop l.field-index l.fields)) ≡ list_all (is_content l.types l.noncopyable) (field_types l.fields)
