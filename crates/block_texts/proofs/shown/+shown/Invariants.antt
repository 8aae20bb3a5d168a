use Rattle.std.proofs.Common.{◌+◌, ◌*◌}
use Rattle.block_texts.proofs.shown.+shown.Given as goal

abbrev pub decreases-put_arguments : goal.decreases-put_arguments
decreases-put_arguments l = 2 * l.fuel + 1

abbrev pub decreases-put_passed : goal.decreases-put_passed
decreases-put_passed l = 2 * l.fuel

abbrev pub decreases-put_closure : goal.decreases-put_closure
decreases-put_closure l = 2 * l.fuel

abbrev pub decreases-put_two : goal.decreases-put_two
decreases-put_two l = 2 * l.fuel

abbrev pub decreases-put_expr : goal.decreases-put_expr
decreases-put_expr l = 2 * l.fuel

abbrev pub decreases-put_with_block : goal.decreases-put_with_block
decreases-put_with_block l = 2 * l.fuel

abbrev pub decreases-put_stmt : goal.decreases-put_stmt
decreases-put_stmt l = 2 * l.fuel

abbrev pub decreases-put_statements : goal.decreases-put_statements
decreases-put_statements l = 2 * l.fuel

abbrev pub decreases-put_head : goal.decreases-put_head
decreases-put_head l = 2 * l.fuel

abbrev pub decreases-put_clauses : goal.decreases-put_clauses
decreases-put_clauses l = 2 * l.fuel

abbrev pub decreases-put_block : goal.decreases-put_block
decreases-put_block l = 2 * l.fuel
