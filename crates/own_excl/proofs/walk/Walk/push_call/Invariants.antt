use Rattle.std.proofs.Common.{◌≡◌, [], ◌++◌, map, drop}
use Rattle.own_tree.specs.TypedView.{exps_of, expr_view}
use Rattle.own_excl.specs.Found.{args_found}
use Rattle.own_excl.specs.View.{accesses_view, breaks_view, types_for, program_for}
use Rattle.own_excl.proofs.walk.Walk.push_call.Given as goal

abbrev pub invariant-loop-argument : goal.invariant-loop-argument
invariant-loop-argument l =
    breaks_view l.breaks.items ++ args_found (types_for l.self) (program_for l.self) (accesses_view l.earlier.items) (exps_of (map expr_view (drop l.argument-index l.arguments))) l.passings
    ≡ breaks_view l.fn.breaks.items ++ args_found (types_for l.self) (program_for l.self) [] (exps_of (map expr_view l.arguments)) l.fn.passings
