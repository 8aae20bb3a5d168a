use Rattle.std.proofs.Common.{◌+◌, ◌*◌, length}
use Rattle.own_grammar.specs.declared.limits.TheConstants.{MOST_PATTERN_LEVELS}
use Rattle.own_expr.proofs.LetPatternList.{ListOn}
use Rattle.own_expr.proofs.let_patterns.+let_patterns.Given as goal

abbrev pub decreases-let_parts_of : goal.decreases-let_parts_of
decreases-let_parts_of l = 8 * length l.rest.now + 4

abbrev pub decreases-let_case_of : goal.decreases-let_case_of
decreases-let_case_of l = 8 * length l.rest.now

abbrev pub decreases-let_pattern_of : goal.decreases-let_pattern_of
decreases-let_pattern_of l = 8 * length l.rest.now + 1

abbrev pub decreases-let_pattern_list : goal.decreases-let_pattern_list
decreases-let_pattern_list l = 8 * length l.rest.now + 2

abbrev pub decreases-let_patterns_of : goal.decreases-let_patterns_of
decreases-let_patterns_of l = 8 * length l.rest.now + 3

abbrev pub invariant-let_pattern_list-loop-found : goal.invariant-let_pattern_list-loop-found
invariant-let_pattern_list-loop-found l = ListOn MOST_PATTERN_LEVELS l.level l.fn.rest l.found l.left

abbrev pub decreases-let_pattern_list-loop-found : goal.decreases-let_pattern_list-loop-found
decreases-let_pattern_list-loop-found l = length l.left
