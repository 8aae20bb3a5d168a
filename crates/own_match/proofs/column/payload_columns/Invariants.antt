use Rattle.std.proofs.Common.{◌≡◌, ◌++◌, drop, map}
use Rattle.own_table.specs.Table.{shape_in_table}
use Rattle.own_shapes.specs.Types.{shapes_of}
use Rattle.own_match.specs.View.{said_all, columns_held}
use Rattle.own_match.specs.Search.{payload_columns}
use Rattle.own_match.proofs.column.payload_columns.Given as goal

abbrev pub invariant-loop-payload : goal.invariant-loop-payload
invariant-loop-payload l = record {
  held : columns_held (shape_in_table l.table) l.columns.items ++ payload_columns (shapes_of (shape_in_table l.table) (drop l.payload l.types)) l.case l.payload (said_all l.cells)
      ≡ payload_columns (shapes_of (shape_in_table l.table) l.types) l.case 0 (said_all l.cells);
  types : map (λ c. c.ty) l.columns.items ++ drop l.payload l.types ≡ l.types;
}
