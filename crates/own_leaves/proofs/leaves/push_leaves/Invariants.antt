use Rattle.std.proofs.Common.{◌≡◌, ◌++◌, drop, map}
use Rattle.own_paths.specs.Fixed.{place_of}
use Rattle.own_shapes.specs.Types.{leaves}
use Rattle.own_table.specs.Table.{shape_in_table}
use Rattle.own_leaves.proofs.leaves.push_leaves.Given as goal

abbrev pub invariant-loop-k : goal.invariant-loop-k
invariant-loop-k l =
    l.places ++ map (λ path. place_of l.binding (l.front ++ path)) (drop l.k (leaves (shape_in_table l.table l.ty)))
    ≡ l.initial.places ++ map (λ path. place_of l.binding (l.front ++ path)) (leaves (shape_in_table l.table l.ty))
