use Rattle.own_paths.specs.Makers.{BodyUses, uses_of}
use Rattle.own_table.specs.Table.{types_in}
use Rattle.own_tree.specs.OpView.{op_view}
use Rattle.own_tree.specs.TypedView.{program_view}
use Rattle.own_reached.proofs.Joined.{joined, no_body}
use Rattle.own_reached.proofs.OnTraces.{on_traces}
use Rattle.own_reached.proofs.bodies.flow_of.Goals as goal

pub reach-requires : goal.reach-requires
reach-requires c =
    let uses : BodyUses = uses_of (types_in c.args.table.now) (program_view c.args.typed.now) c.args.body no_body in
    joined (op_view c.args.tree.now) uses c.in_ok-graph.graph c.in_ok-makers.makers c.in_ok-graph.ensures.exact (c.in_ok-makers.ensures no_body)

pub returns-clause-traces : goal.returns-clause-traces
returns-clause-traces c =
    let uses : BodyUses = uses_of (types_in c.args.table.now) (program_view c.args.typed.now) c.args.body no_body in
    on_traces (op_view c.args.tree.now) uses c.in_ok-graph.graph c.in_ok-makers.makers c.in_ok-facts.facts c.in_ok-graph.ensures.exact
    (c.in_ok-makers.ensures no_body) c.in_ok-facts.ensures
