use Rattle.std.proofs.Common.{◌≡◌, drop}
use Rattle.own_shapes.specs.Types.{passes_let}
use Rattle.own_table.specs.Table.{shape_in_table}
use Rattle.own_excl.proofs.properties.passes_let.Given as goal

abbrev pub invariant-loop-number : goal.invariant-loop-number
invariant-loop-number l = passes_let (shape_in_table l.table l.ty) (drop l.number-index l.fields) ≡ passes_let (shape_in_table l.table l.fn.ty) l.fields
