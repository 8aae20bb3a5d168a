use Rattle.std.proofs.Common.{◌≡◌, ◌++◌, map, drop}
use Rattle.own_tree.specs.TypedView.{exps_of, expr_view}
use Rattle.own_paths.specs.Within.{exps_in_all}
use Rattle.own_within.specs.View.{exps_seen}
use Rattle.own_within.proofs.expressions.+within.Given as goal

abbrev pub invariant-push_expressions-loop-expr : goal.invariant-push_expressions-loop-expr
invariant-push_expressions-loop-expr l =
    exps_seen l.found.items ++ exps_in_all (exps_of (map expr_view (drop l.expr-index l.exprs)))
    ≡ exps_seen l.fn.found.items ++ exps_in_all (exps_of (map expr_view l.exprs))
