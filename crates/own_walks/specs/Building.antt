-- The flow graph of an op tree as a plain function: from the end of the tree to its begin, with each part given the
-- node that comes next.
use Rattle.std.specs.Prelude.{ℕ, ◌==◌, if◌then◌else◌, List, [], ◌∷◌, ◌++◌, length, slice_set}
use Rattle.own_tree.specs.declared.graph.Node.{Node}
use Rattle.own_tree.specs.declared.op.Op.{Op}
use Rattle.own_tree.specs.OpSource.{Ops, op, nothing, next, either, loop, catch, scope, break_at, continue_at, return_at, halt}
use Rattle.own_paths.specs.Traces.{ends_at}
use Rattle.own_walks.specs.Graphs.{plain, doing, leaving, Ways, ends_out, within, in_loop, in_catch, no_ways}

-- the nodes so far, and the node at which what comes next begins
pub record Built : Type 0 where
  pub nodes : List Node
  pub entry : ℕ

abbrev pub built : List Node → ℕ → Built
built nodes entry = record { nodes = nodes; entry = entry }

abbrev pub pushed : Node → List Node → Built
pushed node nodes = built (nodes ++ node ∷ []) (length nodes)

-- ops one after another
abbrev pub chained : List Op → Built → Built
chained [] b = b
chained (o ∷ os) b = let r = chained os b in pushed (doing o r.entry) r.nodes

abbrev pub forked : ℕ → ℕ → List Node → Built
forked first second nodes = if first == second then built nodes first else pushed (plain (first ∷ second ∷ [])) nodes

-- The node that leads back in a loop stands before its parts, so that it alone leads to a node of a larger number.
abbrev pub lay : Ops → Ways → Built → Built
lay (op o) w b = pushed (doing o b.entry) b.nodes
lay nothing w b = b
lay (next x y) w b = lay x w (lay y w b)
lay (either x y) w b =
    let first = lay x w b in
    let second = lay y w (built first.nodes b.entry) in
    forked first.entry second.entry second.nodes
lay (loop x y) w b =
    let back = length b.nodes in
    let second = lay y (in_loop w b.entry back) (built (b.nodes ++ plain [] ∷ []) back) in
    let first = lay x (in_loop w b.entry second.entry) second in
    built (slice_set first.nodes back (plain (first.entry ∷ []))) first.entry
lay (catch x) w b = lay x (in_catch w b.entry) b
lay (scope bs s x) w b = lay x (within bs w) (chained (ends_at s bs) b)
lay (break_at s) w b = chained (ends_out s w.breaking.pending) (built b.nodes w.breaking.target)
lay (continue_at s) w b = chained (ends_out s w.continuing.pending) (built b.nodes w.continuing.target)
lay (return_at s) w b = chained (ends_out s w.returning) (pushed (leaving s) b.nodes)
lay halt w b = pushed (plain []) b.nodes

-- node 0 is where nothing comes, and the entry is the last
abbrev pub graph_of : Ops → Built
graph_of t = let body = lay t (no_ways 0) (pushed (plain []) []) in pushed (plain (body.entry ∷ [])) body.nodes
