use Rattle.std.proofs.Common.{◌+◌, ◌*◌, length}
use Rattle.own_grammar.specs.declared.limits.TheConstants.{MOST_PATTERN_LEVELS}
use Rattle.own_expr.proofs.PatternList.{ListOn}
use Rattle.own_expr.proofs.patterns.+patterns.Given as goal

abbrev pub decreases-parts_of : goal.decreases-parts_of
decreases-parts_of l = 8 * length l.rest.now + 4

abbrev pub decreases-case_of : goal.decreases-case_of
decreases-case_of l = 8 * length l.rest.now

abbrev pub decreases-pattern_of : goal.decreases-pattern_of
decreases-pattern_of l = 8 * length l.rest.now + 1

abbrev pub decreases-pattern_list : goal.decreases-pattern_list
decreases-pattern_list l = 8 * length l.rest.now + 2

abbrev pub decreases-patterns_of : goal.decreases-patterns_of
decreases-patterns_of l = 8 * length l.rest.now + 3

abbrev pub invariant-pattern_list-loop-found : goal.invariant-pattern_list-loop-found
invariant-pattern_list-loop-found l = ListOn MOST_PATTERN_LEVELS l.level l.fn.rest l.found l.left

abbrev pub decreases-pattern_list-loop-found : goal.decreases-pattern_list-loop-found
decreases-pattern_list-loop-found l = length l.left
