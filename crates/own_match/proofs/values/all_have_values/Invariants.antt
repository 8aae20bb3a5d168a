use Rattle.std.proofs.Common.{◌≡◌, drop}
use Rattle.own_table.specs.HasValue.{all_have_values}
use Rattle.own_table.specs.Table.{shape_in_table}
use Rattle.own_shapes.specs.Types.{shapes_of}
use Rattle.own_match.specs.View.{AreTypes}
use Rattle.own_match.proofs.values.all_have_values.Given as goal

abbrev pub invariant-loop-ty : goal.invariant-loop-ty
invariant-loop-ty l = record {
  typed : AreTypes l.table (drop l.ty-index l.types);
  same : all_have_values (shapes_of (shape_in_table l.table) (drop l.ty-index l.types)) ≡ all_have_values (shapes_of (shape_in_table l.table) l.types);
}
