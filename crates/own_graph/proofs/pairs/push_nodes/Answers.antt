use Rattle.std.proofs.Common.{◌≡◌, length, slice_get, Some, refl, sym, ◌∙◌}
use Rattle.std.proofs.lemmas.Option.{slice_get_read}
use Rattle.own_table.specs.Table.{types_in}
use Rattle.own_graph.specs.Makers.{ends_nothing_in}
use Rattle.own_graph.proofs.PairLaws.{node_step, node_end}
use Rattle.own_graph.proofs.pairs.push_nodes.Goals as goal

pub loop-number-preserved : goal.loop-number-preserved
loop-number-preserved c =
    let nodes = c.args.nodes.now in let k = c.loop-number.number in let n = c.index-nodes-number.result in
    let there : slice_get nodes k ≡ Some n = slice_get_read nodes (length nodes) k n refl c.loop-number-test.true c.index-nodes-number.is in
    node_step (ends_nothing_in (types_in c.args.table.now) c.args.bindings.now c.args.body) c.args.leaves.now nodes c.loop-number.pairs c.push_node.new.pairs k n there c.in_ok-push_node.ensures
    ∙ c.loop-number.invariant

pub returns : goal.returns
returns c =
    sym (node_end (ends_nothing_in (types_in c.args.table.now) c.args.bindings.now c.args.body) c.args.leaves.now c.args.nodes.now c.loop-number.pairs c.loop-number.number c.loop-number-test.false)
    ∙ c.loop-number.invariant
