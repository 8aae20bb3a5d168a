use Rattle.own_table.specs.Table.{types_in}
use Rattle.own_tree.specs.OpView.{op_view}
use Rattle.own_tree.specs.TypedView.{program_view}
use Rattle.own_build.proofs.Fitting.{flow_fits}
use Rattle.own_build.proofs.bodies.paths_of.Goals as goal

pub path_findings-requires-clause-flow : goal.path_findings-requires-clause-flow
path_findings-requires-clause-flow c =
    let flow = c.in_ok-flow.flow in let is = c.in_ok-flow.ensures in
    flow_fits (types_in c.args.table.now) (program_view c.args.typed.now) c.args.body (op_view c.args.tree.now)
    flow.graph flow.makers flow.facts c.requires.tree is.exact is.makers is.facts
