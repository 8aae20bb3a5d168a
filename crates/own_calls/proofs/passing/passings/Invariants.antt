use Rattle.std.proofs.Common.{◌≡◌, map, take}
use Rattle.own_table.specs.Table.{shape_in_table}
use Rattle.own_calls.specs.Arguments.{passing_of}
use Rattle.own_calls.proofs.passing.passings.Given as goal

abbrev pub invariant-loop-param : goal.invariant-loop-param
invariant-loop-param l = l.row ≡ map (passing_of (shape_in_table l.table)) (take l.param-index l.params)
