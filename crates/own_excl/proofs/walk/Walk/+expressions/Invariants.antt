use Rattle.std.proofs.Common.{◌≡◌, ◌++◌, map, drop}
use Rattle.own_tree.specs.TypedView.{exps_of, expr_view}
use Rattle.own_excl.specs.Changes.{args_changes}
use Rattle.own_excl.specs.View.{changes_view, types_for, program_for}
use Rattle.own_excl.proofs.walk.Walk.+expressions.Given as goal

abbrev pub invariant-push_arguments-loop-argument : goal.invariant-push_arguments-loop-argument
invariant-push_arguments-loop-argument l =
    changes_view l.changes.items ++ args_changes (types_for l.self) (program_for l.self) (exps_of (map expr_view (drop l.argument-index l.arguments))) l.passings
    ≡ changes_view l.fn.changes.items ++ args_changes (types_for l.self) (program_for l.self) (exps_of (map expr_view l.arguments)) l.fn.passings
