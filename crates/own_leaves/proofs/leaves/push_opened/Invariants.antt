use Rattle.std.proofs.Common.{◌≡◌, ◌++◌, drop}
use Rattle.own_table.specs.Table.{types_in}
use Rattle.own_leaves.proofs.Declared.{property_leaves}
use Rattle.own_leaves.proofs.leaves.push_opened.Given as goal

abbrev pub invariant-loop-number : goal.invariant-loop-number
invariant-loop-number l =
    l.places ++ property_leaves (types_in l.table) l.binding l.number (drop l.number l.field-items)
    ≡ l.initial.places ++ property_leaves (types_in l.table) l.binding 0 l.field-items
