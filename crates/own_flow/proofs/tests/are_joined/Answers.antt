use Rattle.std.proofs.Common.{◌<◌, length, refl, arith}
use Rattle.own_flow.proofs.TestLaws.{joined_by}
use Rattle.own_flow.proofs.tests.are_joined.Goals as goal

pub returns : goal.returns
returns c = λ e.
    let low : c.args.graph.now.entry < length c.as_slice-nodes.result.now = omega (arith, c.if-graph-nodes.false) in
    joined_by c.args.graph.now c.args.makers.now c.as_slice-nodes.result.now c.as_slice-pairs.result.now c.len-leaves.result c.as_slice-nodes.ensures c.as_slice-pairs.ensures c.len-leaves.ensures
    (c.if-not-lead_to_nodes.ensures refl) low (c.if-not-are_starts.ensures refl) (c.are_of_nodes_and_leaves.ensures e)
