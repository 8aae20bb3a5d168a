use Rattle.std.proofs.Common.{◌≡◌, ◌++◌, map, drop}
use Rattle.own_tree.specs.OpView.{op_view}
use Rattle.own_tree.specs.TypedView.{exps_of, expr_view}
use Rattle.own_paths.specs.Ops.{args_ops}
use Rattle.own_uses.specs.Building.{types_for, program_for}
use Rattle.own_uses.proofs.builder.Builder.+expressions.Given as goal

abbrev pub invariant-argument_ops-loop-argument : goal.invariant-argument_ops-loop-argument
invariant-argument_ops-loop-argument l =
    map op_view l.trees ++ args_ops (types_for l.self) (program_for l.self) (exps_of (map expr_view (drop l.argument-index l.arguments))) l.passings
    ≡ args_ops (types_for l.self) (program_for l.self) (exps_of (map expr_view l.arguments)) l.fn.passings
