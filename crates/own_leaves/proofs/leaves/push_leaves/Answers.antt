use Rattle.std.proofs.Common.{ℕ, ◌+◌, List, [], ◌∷◌, ◌++◌, drop, map, ap, ◌∙◌}
use Rattle.own_tree.specs.declared.place.Place.{Place}
use Rattle.own_paths.specs.Fixed.{place_of}
use Rattle.own_shapes.specs.Types.{leaves}
use Rattle.own_table.specs.Table.{shape_in_table}
use Rattle.own_leaves.proofs.Declared.{map_step}
use Rattle.own_leaves.proofs.leaves.push_leaves.Goals as goal

pub loop-k-preserved : goal.loop-k-preserved
loop-k-preserved c =
    let places = c.loop-k.places in let k = c.loop-k.k in let leaf = c.leaf.result.now in
    let paths = leaves (shape_in_table c.args.table.now c.args.ty) in
    let f : List ℕ → Place = λ path. place_of c.args.binding (c.args.front.now ++ path) in
    ap (λ l. l ++ map f (drop (k + 1) paths)) (c.in_ok-push.ensures.ok ∙ ap (λ (x : Place). places ++ x ∷ []) c.in_ok-place_below.ensures)
    ∙ map_step f paths places k leaf c.leaf.ensures ∙ c.loop-k.invariant
