use Rattle.std.proofs.Common.{◌≡◌, drop}
use Rattle.own_table.specs.Table.{shape_in_table}
use Rattle.own_match.specs.Search.{says_nothing}
use Rattle.own_match.specs.View.{columns_held, AreTyped}
use Rattle.own_match.proofs.silent.says_nothing.Given as goal

abbrev pub invariant-loop-column : goal.invariant-loop-column
invariant-loop-column l = record {
  typed : AreTyped l.table (drop l.column-index l.todo);
  same : says_nothing l.number (columns_held (shape_in_table l.table) (drop l.column-index l.todo)) ≡ says_nothing l.number (columns_held (shape_in_table l.table) l.todo);
}
