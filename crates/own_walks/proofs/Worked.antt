-- Graphs of small trees, computed.
use Rattle.std.proofs.Common.{◌≡◌, [], ◌∷◌, refl}
use Rattle.own_tree.specs.declared.op.Op.{Op}
use Rattle.own_tree.specs.declared.span.Span.{Span}
use Rattle.own_tree.specs.OpSource.{op, nothing, either, loop, scope, break_at, return_at, in_order}
use Rattle.own_paths.specs.Traces.{end_of}
use Rattle.own_walks.specs.Building.{built, graph_of}
use Rattle.own_walks.specs.Graphs.{plain, doing, leaving}

-- `while test { }` where the test has an op: the loop begins at the op, and node 1 leads back to it
loop_graph : (o : Op) (s : Span)
    → graph_of (loop (in_order (op o ∷ either (break_at s) nothing ∷ [])) nothing) ≡ built (plain [] ∷ plain (3 ∷ []) ∷ plain (0 ∷ 1 ∷ []) ∷ doing o 2 ∷ plain (3 ∷ []) ∷ []) 4
loop_graph o s = refl

-- a `break` has the Ends of the scope that it leaves, the last binding first, at its own span; the return has those of all
jump_graph : (s t close : Span)
    → graph_of (scope (7 ∷ []) close (loop (scope (8 ∷ 9 ∷ []) close (in_order (break_at s ∷ return_at t ∷ []))) nothing))
    ≡ built (plain [] ∷ doing (end_of close 7) 0 ∷ plain (10 ∷ []) ∷ doing (end_of close 8) 2 ∷ doing (end_of close 9) 3 ∷ leaving t ∷ doing (end_of t 7) 5 ∷ doing (end_of t 8) 6 ∷ doing (end_of t 9) 7
    ∷ doing (end_of s 8) 1 ∷ doing (end_of s 9) 9 ∷ plain (10 ∷ []) ∷ []) 11
jump_graph s t close = refl
