-- What the head of a clause stands for.
use Rattle.own_tree.specs.declared.tree.Expr.TheFolds.{fold-Head}
use Rattle.own_tree.specs.declared.tree.Head.{Head}
use Rattle.own_tree.specs.Source.{Exp, Given, Stm, When, Clo, Blk}
use Rattle.own_tree.specs.View.{Arg, Cla, expr_step, head_step, passed_step, stmt_step, argument_step, block_step, clause_step, closure_step}

abbrev pub head_view : Head → When
head_view = fold-Head Exp When Given Stm Arg Blk Cla Clo expr_step head_step passed_step stmt_step argument_step block_step clause_step closure_step
