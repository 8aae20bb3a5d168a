-- The graph, the makers and the facts of a body, as the calls named for them give them.
use Rattle.std.specs.Prelude.{◌≡◌, Bool, List}
use Rattle.own_tree.specs.declared.graph.Graph.{Graph}
use Rattle.own_tree.specs.declared.graph.Makers.{Makers}
use Rattle.own_paths.specs.Makers.{BodyUses, tree_of}
use Rattle.own_walks.specs.Building.{built, graph_of}
use Rattle.own_graph.specs.Makers.{AreMakersOf}
use Rattle.own_flow.specs.Facts.{AreFactsOf}

pub record IsFlowOf (uses : BodyUses) (graph : Graph) (makers : Makers) (facts : List (List Bool)) : Type 0 where
  pub graph_is : built graph.nodes graph.entry ≡ graph_of (tree_of uses)
  pub makers_are : AreMakersOf uses graph makers
  pub facts_are : AreFactsOf graph makers facts
