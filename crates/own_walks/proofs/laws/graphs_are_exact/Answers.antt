use Rattle.std.proofs.Common.{[], ◌∷◌}
use Rattle.std.proofs.lemmas.Option.{slice_get_within}
use Rattle.own_walks.specs.Building.{graph_of}
use Rattle.own_walks.specs.Graphs.{plain}
use Rattle.own_walks.proofs.Edges.{graph_edges}
use Rattle.own_walks.proofs.Laid.{graph_is}
use Rattle.own_walks.proofs.laws.graphs_are_exact.Goals as goal

pub returns : goal.returns
returns c = record {
  is_graph = graph_is;
  entry = λ t. let g = graph_is t in slice_get_within (graph_of t).nodes (graph_of t).entry (plain (g.first ∷ [])) g.begins.1;
  edges = graph_edges;
}
