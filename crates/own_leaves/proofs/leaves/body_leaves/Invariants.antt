use Rattle.std.proofs.Common.{◌≡◌, ◌++◌, drop}
use Rattle.own_paths.specs.Makers.{leaves_declared}
use Rattle.own_table.specs.Table.{types_in}
use Rattle.own_leaves.proofs.leaves.body_leaves.Given as goal

abbrev pub invariant-loop-number : goal.invariant-loop-number
invariant-loop-number l =
    l.places ++ leaves_declared (types_in l.table) l.body l.number (drop l.number l.bindings) ≡ leaves_declared (types_in l.table) l.body 0 l.bindings
