-- The flow of a body, by its op tree, is what the path rules ask for.
use Rattle.std.proofs.Common.{◌≡◌, ℕ, Bool, List, Option, Some, None, slice_get, sym, ap, ◌∙◌, subst}
use Rattle.own_tree.specs.OpSource.{Ops}
use Rattle.own_tree.specs.TypedSource.{TBody, Program}
use Rattle.own_tree.specs.declared.graph.Graph.{Graph}
use Rattle.own_tree.specs.declared.graph.Makers.{Makers}
use Rattle.own_shapes.specs.Types.{Types}
use Rattle.own_paths.specs.Makers.{uses_of, tree_of}
use Rattle.own_walks.specs.Building.{built, graph_of}
use Rattle.own_graph.specs.Makers.{AreMakersOf}
use Rattle.own_flow.specs.Facts.{AreFactsOf}
use Rattle.own_rules.specs.Flow.{IsFlowOf}
use Rattle.own_uses.specs.Answers.{tree_by}

abbrev tree_in : Ops → Option Ops → Ops
tree_in other None = other
tree_in other (Some tree) = tree

pub flow_fits : (types : Types) (program : Program) (k : ℕ) (tree : Ops) (graph : Graph) (makers : Makers) (facts : List (List Bool))
    → tree_by types program (slice_get program.bodies k) ≡ Some tree
    → built graph.nodes graph.entry ≡ graph_of tree
    → ((b : TBody) → AreMakersOf (uses_of types program k b) graph makers)
    → AreFactsOf graph makers facts
    → (b : TBody) → slice_get program.bodies k ≡ Some b → IsFlowOf (uses_of types program k b) graph makers facts
flow_fits types program k tree graph makers facts tree_is graph_is makers_are facts_are b here =
    let of_body : tree_by types program (Some b) ≡ Some tree = subst (λ o. tree_by types program o ≡ Some tree) here tree_is in
    let same : tree_of (uses_of types program k b) ≡ tree = ap (λ o. tree_in tree o) of_body in
    record { graph_is = graph_is ∙ ap (λ t. graph_of t) (sym same); makers_are = makers_are b; facts_are = facts_are }
