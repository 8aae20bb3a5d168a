use Rattle.std.proofs.Common.{◌≡◌, ◌++◌, ◌+◌, ◌*◌, drop}
use Rattle.own_tree.specs.TypedView.{program_view}
use Rattle.own_paths.specs.Captures.{exps_mention, outer_mentions}
use Rattle.own_within.specs.View.{exps_seen, captured_seen}
use Rattle.own_within.proofs.outer.+outer.Given as goal

abbrev pub decreases-outer_mentions : goal.decreases-outer_mentions
decreases-outer_mentions l = 5 * l.depth

abbrev pub decreases-block_mentions : goal.decreases-block_mentions
decreases-block_mentions l = 5 * l.depth + 4

abbrev pub decreases-push_outer : goal.decreases-push_outer
decreases-push_outer l = 5 * l.depth + 1

abbrev pub decreases-push_expression_mentions : goal.decreases-push_expression_mentions
decreases-push_expression_mentions l = 5 * l.depth + 2

abbrev pub decreases-push_expressions_mention : goal.decreases-push_expressions_mention
decreases-push_expressions_mention l = 5 * l.depth + 3

abbrev pub invariant-push_expressions_mention-loop-expr : goal.invariant-push_expressions_mention-loop-expr
invariant-push_expressions_mention-loop-expr l =
    captured_seen l.mentions.items ++ exps_mention (outer_mentions (program_view l.typed) l.depth) (exps_seen (drop l.expr-index l.exprs))
    ≡ captured_seen l.fn.mentions.items ++ exps_mention (outer_mentions (program_view l.typed) l.depth) (exps_seen l.exprs)
