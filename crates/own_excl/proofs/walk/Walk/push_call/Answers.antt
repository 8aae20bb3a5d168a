use Rattle.std.proofs.Common.{[], ◌++◌, map, ap, ◌∙◌}
use Rattle.own_tree.specs.TypedView.{exps_of, expr_view}
use Rattle.own_paths.specs.Fixed.{all_conflicts}
use Rattle.own_excl.specs.Found.{arg_claims, args_found}
use Rattle.own_excl.specs.View.{accesses_view, breaks_view, types_for, program_for}
use Rattle.own_excl.proofs.Walking.{args_more}
use Rattle.own_excl.proofs.walk.Walk.push_call.Goals as goal

pub loop-argument-preserved : goal.loop-argument-preserved
loop-argument-preserved c =
    let types = types_for c.args.self.now in
    let program = program_for c.args.self.now in
    let es = c.args.arguments.now in
    let x = c.argument-item.result in
    let given = c.first_passing-given.result in
    let old = breaks_view c.loop-argument.breaks.items in
    let new = breaks_view c.push_argument_conflicts.new.breaks.items in
    let all = breaks_view c.args.breaks.now.items ++ args_found types program [] (exps_of (map expr_view es)) c.args.passings.now in
    let pushed = c.in_ok-push_argument_conflicts.ensures ∙ ap (λ as'. old ++ all_conflicts (accesses_view as') (arg_claims types program given (expr_view x))) c.as_slice.ensures.value in
    args_more types program es c.loop-argument.argument-index x c.loop-argument-test.true c.argument-item.is (accesses_view c.loop-argument.earlier.items)
    (accesses_view c.push_held.new.held.items) old new all c.loop-argument.passings.now c.other_passings-passings.result.now given c.first_passing-given.ensures
    c.other_passings-passings.ensures c.in_ok-push_held.ensures pushed c.loop-argument.invariant
