use Rattle.std.proofs.Common.{◌≡◌, ◌++◌, drop}
use Rattle.own_table.specs.ByParts.{field_leaves}
use Rattle.own_table.proofs.measure.fields_leaves.Given as goal

abbrev pub invariant-loop-number : goal.invariant-loop-number
invariant-loop-number l = l.leaves ++ field_leaves l.measures l.number (drop l.number l.fields) ≡ field_leaves l.measures 0 l.fields
