use Rattle.std.proofs.Common.{rules}
use Rattle.own_tree.specs.OpView.{op_view}
use Rattle.own_graph.proofs.LayLaws.{graph_walks}
use Rattle.own_graph.proofs.lay.graph.Goals as goal

pub returns-clause-walks : goal.returns-clause-walks
returns-clause-walks c = graph_walks (op_view c.args.ops.now) _ _ (search rules)
