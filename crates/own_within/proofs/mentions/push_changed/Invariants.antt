use Rattle.std.proofs.Common.{◌≡◌, ◌++◌, map, drop}
use Rattle.own_tree.specs.TypedView.{exps_of, expr_view}
use Rattle.own_paths.specs.Captures.{changed_by_passing}
use Rattle.own_within.specs.View.{captured_seen}
use Rattle.own_within.proofs.mentions.push_changed.Given as goal

abbrev pub invariant-loop-argument : goal.invariant-loop-argument
invariant-loop-argument l =
    captured_seen l.mentions.items ++ changed_by_passing (exps_of (map expr_view (drop l.argument-index l.arguments))) l.passings
    ≡ captured_seen l.fn.mentions.items ++ changed_by_passing (exps_of (map expr_view l.arguments)) l.fn.passings
