use Rattle.std.proofs.Common.{◌≡◌, drop}
use Rattle.own_table.specs.Table.{shape_in_table}
use Rattle.own_match.specs.Search.{one_is_silent}
use Rattle.own_match.specs.View.{columns_held}
use Rattle.own_match.proofs.silent.one_is_silent.Given as goal

abbrev pub invariant-loop-number : goal.invariant-loop-number
invariant-loop-number l =
    one_is_silent l.number (columns_held (shape_in_table l.table) l.todo) (drop l.number l.live) ≡ one_is_silent 0 (columns_held (shape_in_table l.table) l.todo) l.live
