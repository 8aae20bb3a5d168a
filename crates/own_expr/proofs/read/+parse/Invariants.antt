use Rattle.std.proofs.Common.{◌+◌, ◌*◌, length}
use Rattle.own_expr.proofs.Opens.{ArgumentsOn, StatementsOn, ClauseOn, ClausesOn}
use Rattle.own_expr.proofs.read.+parse.Given as goal

abbrev pub decreases-expressions::parenthesized_of : goal.decreases-expressions::parenthesized_of
decreases-expressions::parenthesized_of l = 64 * length l.rest.now + 0

abbrev pub decreases-expressions::primary_of : goal.decreases-expressions::primary_of
decreases-expressions::primary_of l = 64 * length l.rest.now + 1

abbrev pub decreases-expressions::post_of : goal.decreases-expressions::post_of
decreases-expressions::post_of l = 64 * length l.rest.now + 2

abbrev pub decreases-expressions::prefix_of : goal.decreases-expressions::prefix_of
decreases-expressions::prefix_of l = 64 * length l.rest.now + 2

abbrev pub decreases-expressions::pre_of : goal.decreases-expressions::pre_of
decreases-expressions::pre_of l = 64 * length l.rest.now + 3

abbrev pub decreases-expressions::operand_goal : goal.decreases-expressions::operand_goal
decreases-expressions::operand_goal l = 64 * length l.rest.now + 4

abbrev pub decreases-expressions::level_of : goal.decreases-expressions::level_of
decreases-expressions::level_of l = 64 * length l.rest.now + (5 + l.j)

abbrev pub decreases-expressions::operators_of : goal.decreases-expressions::operators_of
decreases-expressions::operators_of l = 64 * length l.rest.now + 11

abbrev pub decreases-expressions::operators_goal : goal.decreases-expressions::operators_goal
decreases-expressions::operators_goal l = 64 * length l.rest.now + 12

abbrev pub decreases-expressions::next_of : goal.decreases-expressions::next_of
decreases-expressions::next_of l = 64 * length l.rest.now + 13

abbrev pub decreases-expressions::choice_of : goal.decreases-expressions::choice_of
decreases-expressions::choice_of l = 64 * length l.rest.now + 14

abbrev pub decreases-calls::closure_of : goal.decreases-calls::closure_of
decreases-calls::closure_of l = 64 * length l.rest.now + 15

abbrev pub decreases-expressions::expression_of : goal.decreases-expressions::expression_of
decreases-expressions::expression_of l = 64 * length l.rest.now + 16

abbrev pub decreases-expressions::expression_goal : goal.decreases-expressions::expression_goal
decreases-expressions::expression_goal l = 64 * length l.rest.now + 17

abbrev pub decreases-expressions::branches_of : goal.decreases-expressions::branches_of
decreases-expressions::branches_of l = 64 * length l.rest.now + 18

abbrev pub decreases-statements::bound_of : goal.decreases-statements::bound_of
decreases-statements::bound_of l = 64 * length l.rest.now + 18

abbrev pub decreases-calls::given_of : goal.decreases-calls::given_of
decreases-calls::given_of l = 64 * length l.rest.now + 19

abbrev pub decreases-statements::let_of : goal.decreases-statements::let_of
decreases-statements::let_of l = 64 * length l.rest.now + 19

abbrev pub decreases-statements::ignore_of : goal.decreases-statements::ignore_of
decreases-statements::ignore_of l = 64 * length l.rest.now + 19

abbrev pub decreases-statements::else_of : goal.decreases-statements::else_of
decreases-statements::else_of l = 64 * length l.rest.now + 19

abbrev pub decreases-statements::if_of : goal.decreases-statements::if_of
decreases-statements::if_of l = 64 * length l.rest.now + 19

abbrev pub decreases-statements::while_of : goal.decreases-statements::while_of
decreases-statements::while_of l = 64 * length l.rest.now + 19

abbrev pub decreases-statements::repeat_of : goal.decreases-statements::repeat_of
decreases-statements::repeat_of l = 64 * length l.rest.now + 19

abbrev pub decreases-statements::upper_of : goal.decreases-statements::upper_of
decreases-statements::upper_of l = 64 * length l.rest.now + 19

abbrev pub decreases-statements::switch_of : goal.decreases-statements::switch_of
decreases-statements::switch_of l = 64 * length l.rest.now + 19

abbrev pub decreases-statements::return_of : goal.decreases-statements::return_of
decreases-statements::return_of l = 64 * length l.rest.now + 19

abbrev pub decreases-statements::assign_of : goal.decreases-statements::assign_of
decreases-statements::assign_of l = 64 * length l.rest.now + 19

abbrev pub decreases-calls::argument_of : goal.decreases-calls::argument_of
decreases-calls::argument_of l = 64 * length l.rest.now + 20

abbrev pub decreases-statements::lower_of : goal.decreases-statements::lower_of
decreases-statements::lower_of l = 64 * length l.rest.now + 20

abbrev pub decreases-statements::evaluate_of : goal.decreases-statements::evaluate_of
decreases-statements::evaluate_of l = 64 * length l.rest.now + 20

abbrev pub decreases-calls::arguments_of : goal.decreases-calls::arguments_of
decreases-calls::arguments_of l = 64 * length l.rest.now + 21

abbrev pub decreases-statements::for_of : goal.decreases-statements::for_of
decreases-statements::for_of l = 64 * length l.rest.now + 21

abbrev pub decreases-calls::all_arguments_of : goal.decreases-calls::all_arguments_of
decreases-calls::all_arguments_of l = 64 * length l.rest.now + 22

abbrev pub decreases-calls::called_of : goal.decreases-calls::called_of
decreases-calls::called_of l = 64 * length l.rest.now + 23

abbrev pub decreases-calls::call_of : goal.decreases-calls::call_of
decreases-calls::call_of l = 64 * length l.rest.now + 24

abbrev pub decreases-calls::closing_of : goal.decreases-calls::closing_of
decreases-calls::closing_of l = 64 * length l.rest.now + 24

abbrev pub decreases-calls::member_of : goal.decreases-calls::member_of
decreases-calls::member_of l = 64 * length l.rest.now + 24

abbrev pub decreases-calls::calls_of : goal.decreases-calls::calls_of
decreases-calls::calls_of l = 64 * length l.rest.now + 25

abbrev pub decreases-calls::calls_goal : goal.decreases-calls::calls_goal
decreases-calls::calls_goal l = 64 * length l.rest.now + 26

abbrev pub decreases-statements::simple_of : goal.decreases-statements::simple_of
decreases-statements::simple_of l = 64 * length l.rest.now + 27

abbrev pub decreases-statements::statement_of : goal.decreases-statements::statement_of
decreases-statements::statement_of l = 64 * length l.rest.now + 28

abbrev pub decreases-statements::statement_goal : goal.decreases-statements::statement_goal
decreases-statements::statement_goal l = 64 * length l.rest.now + 29

abbrev pub decreases-blocks::separated_of : goal.decreases-blocks::separated_of
decreases-blocks::separated_of l = 64 * length l.rest.now + 29

abbrev pub decreases-blocks::statements_goal : goal.decreases-blocks::statements_goal
decreases-blocks::statements_goal l = 64 * length l.rest.now + 30

abbrev pub decreases-clauses::clause_goal : goal.decreases-clauses::clause_goal
decreases-clauses::clause_goal l = 64 * length l.rest.now + 30

abbrev pub decreases-blocks::block_of : goal.decreases-blocks::block_of
decreases-blocks::block_of l = 64 * length l.rest.now + 31

abbrev pub decreases-blocks::body_goal : goal.decreases-blocks::body_goal
decreases-blocks::body_goal l = 64 * length l.rest.now + 32

abbrev pub decreases-clauses::where_of : goal.decreases-clauses::where_of
decreases-clauses::where_of l = 64 * length l.rest.now + 33

abbrev pub decreases-clauses::head_of : goal.decreases-clauses::head_of
decreases-clauses::head_of l = 64 * length l.rest.now + 34

abbrev pub decreases-clauses::clause_of : goal.decreases-clauses::clause_of
decreases-clauses::clause_of l = 64 * length l.rest.now + 35

abbrev pub decreases-clauses::clauses_goal : goal.decreases-clauses::clauses_goal
decreases-clauses::clauses_goal l = 64 * length l.rest.now + 36

abbrev pub invariant-calls::arguments_of-loop-found : goal.invariant-calls::arguments_of-loop-found
invariant-calls::arguments_of-loop-found l = ArgumentsOn l.depth l.fn.rest l.found l.height l.left

abbrev pub decreases-calls::arguments_of-loop-found : goal.decreases-calls::arguments_of-loop-found
decreases-calls::arguments_of-loop-found l = length l.left

abbrev pub invariant-blocks::statements_goal-loop-alloc : goal.invariant-blocks::statements_goal-loop-alloc
invariant-blocks::statements_goal-loop-alloc l = StatementsOn l.depth l.fn.rest l.found l.height l.left

abbrev pub decreases-blocks::statements_goal-loop-alloc : goal.decreases-blocks::statements_goal-loop-alloc
decreases-blocks::statements_goal-loop-alloc l = length l.left

abbrev pub invariant-clauses::clause_goal-loop-found : goal.invariant-clauses::clause_goal-loop-found
invariant-clauses::clause_goal-loop-found l = ClauseOn l.depth l.fn.rest l.found l.height l.left

abbrev pub decreases-clauses::clause_goal-loop-found : goal.decreases-clauses::clause_goal-loop-found
decreases-clauses::clause_goal-loop-found l = length l.left

abbrev pub invariant-clauses::clauses_goal-loop-alloc : goal.invariant-clauses::clauses_goal-loop-alloc
invariant-clauses::clauses_goal-loop-alloc l = ClausesOn l.depth l.fn.rest l.found l.height l.left

abbrev pub decreases-clauses::clauses_goal-loop-alloc : goal.decreases-clauses::clauses_goal-loop-alloc
decreases-clauses::clauses_goal-loop-alloc l = length l.left
