use Rattle.std.proofs.Common.{◌≡◌, ◌++◌, map, take}
use Rattle.own_survey.specs.Names.{type_in}
use Rattle.own_shapes.specs.Types.{resolved_case}
use Rattle.own_table.proofs.resolve.push_items.Given as goal

abbrev pub invariant-loop-item : goal.invariant-loop-item
invariant-loop-item l = l.cases ≡ l.initial.cases ++ map (resolved_case (type_in l.names)) (take l.item-index l.items)
