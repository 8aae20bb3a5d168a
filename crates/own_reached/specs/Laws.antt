-- What is proved of the graph, the makers and the facts of a body together, for contracts to cite.
use Rattle.std.specs.Prelude.{◌≡◌, ℕ, ◌↔◌, Bool, List}
use Rattle.own_tree.specs.declared.graph.Graph.{Graph}
use Rattle.own_tree.specs.declared.graph.Makers.{Makers}
use Rattle.own_tree.specs.OpSource.{Ops}
use Rattle.own_paths.specs.Makers.{BodyUses}
use Rattle.own_walks.specs.Building.{built, graph_of}
use Rattle.own_graph.specs.Makers.{AreMakersOf}
use Rattle.own_flow.specs.Facts.{AreFactsOf, AreJoined, IsFactAt}
use Rattle.own_reached.specs.LastMakers.{IsLastOnTrace}

-- the graph of a tree, and the makers at its nodes, belong together
abbrev pub GraphsAndMakersFit : Type 0
GraphsAndMakersFit =
    (t : Ops) (uses : BodyUses) (graph : Graph) (makers : Makers) → built graph.nodes graph.entry ≡ graph_of t
    → AreMakersOf uses graph makers → AreJoined graph makers

-- the facts are: some trace comes to the node on which that maker is the last of its leaf
abbrev pub FactsAreOfTraces : Type 0
FactsAreOfTraces =
    (t : Ops) (uses : BodyUses) (graph : Graph) (makers : Makers) (facts : List (List Bool))
    → built graph.nodes graph.entry ≡ graph_of t → AreMakersOf uses graph makers → AreFactsOf graph makers facts
    → (v p : ℕ) → IsFactAt facts v p ↔ IsLastOnTrace t graph makers v p
