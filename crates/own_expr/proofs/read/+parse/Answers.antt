use Rattle.std.proofs.Common.{◌<◌, map, refl, sym, ◌∙◌, arith}
use Rattle.std.proofs.lemmas.List.{length-map}
use Rattle.std.proofs.lemmas.Result.{err_from_is_err_and}
use Rattle.own_tree.specs.View.{expr_view, pattern_view}
use Rattle.own_expr.specs.Reads.{reader}
use Rattle.own_expr.proofs.Opens.{expression_is, operand_is, operators_is, calls_is, statement_is, body_is, parenthesized_is, level_zero, level_up, level_fail, where_none, where_one, where_many, where_fail, arguments_high, arguments_go, arguments_end, arguments_fail, statements_go, statements_end, statements_fail, statements_high, clause_go, clause_end, clause_fail, clauses_go, clauses_end, clauses_fail}
use Rattle.own_expr.proofs.read.+parse.Goals as goal

pub expressions::primary_of-returns-then-is_mark-clause-gives : goal.expressions::primary_of-returns-then-is_mark-clause-gives
expressions::primary_of-returns-then-is_mark-clause-gives t c = rw (parenthesized_is reader c.args.tight c.args.depth c.args.rest.now (sym c.is_mark.ensures.value ∙ c.if-is_mark.true)) c.parenthesized_of.ensures.gives

pub expressions::operand_goal-returns-clause-gives : goal.expressions::operand_goal-returns-clause-gives
expressions::operand_goal-returns-clause-gives t c = rw (operand_is c.args.context c.args.depth c.args.rest.now) c.pre_of.ensures.gives

pub expressions::level_of-returns-then-j-eq0-clause-gives : goal.expressions::level_of-returns-then-j-eq0-clause-gives
expressions::level_of-returns-then-j-eq0-clause-gives t c = rw (level_zero reader c.args.j c.args.context c.args.depth c.args.rest.now (omega (arith, c.if-j-eq0.true))) c.pre_of.ensures.gives

pub expressions::level_of-returns-in_err-e-clause-gives : goal.expressions::level_of-returns-in_err-e-clause-gives
expressions::level_of-returns-in_err-e-clause-gives t c =
    let p = err_from_is_err_and c.from_residual.result c.from_residual.ensures.1 in
    let lt : 0 < c.args.j = omega (arith, c.if-j-eq0.false) in
    rw (p.1, p.2) (level_fail c.in_err-e.field-0.0 reader c.args.j c.args.context c.args.depth c.args.rest.now lt c.in_err-e.ensures.gives)

pub expressions::level_of-returns-clause-gives : goal.expressions::level_of-returns-clause-gives
expressions::level_of-returns-clause-gives t c =
    let lt : 0 < c.args.j = omega (arith, c.if-j-eq0.false) in
    rw (level_up reader c.args.j c.args.context c.args.depth c.args.rest.now lt, c.in_ok-e.ensures.gives) c.operators_goal.ensures.gives

pub expressions::operators_goal-returns-clause-gives : goal.expressions::operators_goal-returns-clause-gives
expressions::operators_goal-returns-clause-gives t c = rw (operators_is c.args.j c.args.context (expr_view c.args.left) c.args.depth c.args.rest.now) c.operators_of.ensures.gives

pub expressions::expression_goal-returns-clause-gives : goal.expressions::expression_goal-returns-clause-gives
expressions::expression_goal-returns-clause-gives t c = rw (expression_is c.args.context c.args.depth c.args.rest.now) c.expression_of.ensures.gives

pub calls::calls_goal-returns-clause-gives : goal.calls::calls_goal-returns-clause-gives
calls::calls_goal-returns-clause-gives t c = rw (calls_is c.args.context (expr_view c.args.left) c.args.depth c.args.rest.now) c.calls_of.ensures.gives

pub calls::arguments_of-returns-in_err-argument-clause-gives : goal.calls::arguments_of-returns-in_err-argument-clause-gives
calls::arguments_of-returns-in_err-argument-clause-gives t c =
    let p = err_from_is_err_and c.from_residual.result c.from_residual.ensures.1 in
    rw (p.1, p.2) (arguments_fail c.in_err-argument.field-0.0 c.args.depth c.args.rest.now c.loop-found.found c.loop-found.height c.loop-found.left.now c.in_err-argument.ensures.gives c.loop-found.invariant)

pub calls::arguments_of-returns-then-not-is_mark-clause-gives : goal.calls::arguments_of-returns-then-not-is_mark-clause-gives
calls::arguments_of-returns-then-not-is_mark-clause-gives t c =
    rw c.in_ok-push.ensures.ok (arguments_end c.args.depth c.args.rest.now c.loop-found.found c.loop-found.height c.loop-found.left.now c.in_ok-argument.argument c.in_ok-argument.more.now c.in_ok-argument.ensures.gives (sym c.is_mark.ensures.value ∙ c.if-not-is_mark.true) c.loop-found.invariant)

pub calls::arguments_of-returns-then-not-is_mark-clause-height : goal.calls::arguments_of-returns-then-not-is_mark-clause-height
calls::arguments_of-returns-then-not-is_mark-clause-height t c =
    rw (c.in_ok-push.ensures.ok, c.larger-height.ensures) (arguments_high c.loop-found.found c.loop-found.height c.in_ok-argument.argument c.in_ok-argument.more_height c.loop-found.invariant.high c.in_ok-argument.ensures.height)

pub calls::arguments_of-loop-found-preserved : goal.calls::arguments_of-loop-found-preserved
calls::arguments_of-loop-found-preserved t c =
    rw (c.in_ok-push.ensures.ok, c.larger-height.ensures) (arguments_go c.args.depth c.args.rest.now c.loop-found.found c.loop-found.height c.loop-found.left.now c.in_ok-argument.argument c.in_ok-argument.more_height c.in_ok-argument.more.now c.after-left.result.now
    c.in_ok-argument.ensures.gives (sym c.is_mark.ensures.value ∙ c.if-not-is_mark.false) c.after-left.ensures.value c.in_ok-argument.ensures.height c.in_ok-argument.ensures.fits (omega (arith, c.after-left.ensures.within, c.in_ok-argument.ensures.shorter)) c.loop-found.invariant)

pub statements::statement_goal-returns-clause-gives : goal.statements::statement_goal-returns-clause-gives
statements::statement_goal-returns-clause-gives t c = rw (statement_is c.args.depth c.args.rest.now) c.statement_of.ensures.gives

pub blocks::body_goal-returns-clause-gives : goal.blocks::body_goal-returns-clause-gives
blocks::body_goal-returns-clause-gives t c = rw (body_is c.args.depth c.args.rest.now) c.block_of.ensures.gives

pub blocks::statements_goal-returns-in_err-statement-clause-gives : goal.blocks::statements_goal-returns-in_err-statement-clause-gives
blocks::statements_goal-returns-in_err-statement-clause-gives t c =
    let p = err_from_is_err_and c.from_residual.result c.from_residual.ensures.1 in
    rw (p.1, p.2) (statements_fail c.in_err-statement.field-0.0 c.args.depth c.args.rest.now c.loop-alloc.found c.loop-alloc.height c.loop-alloc.left.now (sym c.is_mark.ensures.value ∙ c.loop-alloc-test.true) c.in_err-statement.ensures.gives c.loop-alloc.invariant)

pub blocks::statements_goal-loop-alloc-preserved : goal.blocks::statements_goal-loop-alloc-preserved
blocks::statements_goal-loop-alloc-preserved t c =
    rw (c.in_ok-push.ensures.ok, c.larger-height.ensures) (statements_go c.args.depth c.args.rest.now c.loop-alloc.found c.loop-alloc.height c.loop-alloc.left.now c.in_ok-statement.statement c.in_ok-statement.more_height c.in_ok-statement.more.now
    (sym c.is_mark.ensures.value ∙ c.loop-alloc-test.true) c.in_ok-statement.ensures.gives c.in_ok-statement.ensures.height c.in_ok-statement.ensures.fits c.in_ok-statement.ensures.shorter c.loop-alloc.invariant)

pub blocks::statements_goal-returns-clause-gives : goal.blocks::statements_goal-returns-clause-gives
blocks::statements_goal-returns-clause-gives t c = statements_end c.args.depth c.args.rest.now c.loop-alloc.found c.loop-alloc.height c.loop-alloc.left.now (sym c.is_mark.ensures.value ∙ c.loop-alloc-test.false) c.loop-alloc.invariant

pub clauses::clause_goal-returns-in_err-statement-clause-gives : goal.clauses::clause_goal-returns-in_err-statement-clause-gives
clauses::clause_goal-returns-in_err-statement-clause-gives t c =
    let p = err_from_is_err_and c.from_residual.result c.from_residual.ensures.1 in
    rw (p.1, p.2) (clause_fail c.in_err-statement.field-0.0 c.args.depth c.args.rest.now c.loop-found.found c.loop-found.height c.loop-found.left.now c.in_err-statement.ensures.gives c.loop-found.invariant)

pub clauses::clause_goal-returns-then-ends_clause-clause-gives : goal.clauses::clause_goal-returns-then-ends_clause-clause-gives
clauses::clause_goal-returns-then-ends_clause-clause-gives t c =
    rw c.in_ok-push.ensures.ok (clause_end c.args.depth c.args.rest.now c.loop-found.found c.loop-found.height c.loop-found.left.now c.in_ok-statement.statement c.in_ok-statement.more.now c.in_ok-statement.ensures.gives (sym c.ends_clause.ensures ∙ c.if-ends_clause.true) c.loop-found.invariant)

pub clauses::clause_goal-returns-then-ends_clause-clause-height : goal.clauses::clause_goal-returns-then-ends_clause-clause-height
clauses::clause_goal-returns-then-ends_clause-clause-height t c =
    rw (c.in_ok-push.ensures.ok, c.larger-height.ensures) (statements_high c.loop-found.found c.loop-found.height c.in_ok-statement.statement c.in_ok-statement.more_height c.loop-found.invariant.high c.in_ok-statement.ensures.height)

pub clauses::clause_goal-loop-found-preserved : goal.clauses::clause_goal-loop-found-preserved
clauses::clause_goal-loop-found-preserved t c =
    rw (c.in_ok-push.ensures.ok, c.larger-height.ensures) (clause_go c.args.depth c.args.rest.now c.loop-found.found c.loop-found.height c.loop-found.left.now c.in_ok-statement.statement c.in_ok-statement.more_height c.in_ok-statement.more.now
    c.in_ok-statement.ensures.gives (sym c.ends_clause.ensures ∙ c.if-ends_clause.false) c.in_ok-statement.ensures.height c.in_ok-statement.ensures.fits c.in_ok-statement.ensures.shorter c.loop-found.invariant)

pub clauses::where_of-returns-then-not-is_word-clause-gives : goal.clauses::where_of-returns-then-not-is_word-clause-gives
clauses::where_of-returns-then-not-is_word-clause-gives t c = rw c.case_head.ensures (where_none reader c.args.depth (map pattern_view c.args.patterns) c.args.rest.now (sym c.is_word.ensures.value ∙ c.if-not-is_word.true))

pub clauses::where_of-returns-in_err-guard-in-Ok-clause-gives : goal.clauses::where_of-returns-in_err-guard-in-Ok-clause-gives
clauses::where_of-returns-in_err-guard-in-Ok-clause-gives t c =
    let p = err_from_is_err_and c.from_residual.result c.from_residual.ensures.1 in
    rw (p.1, p.2, c.in-Ok.ensures.one) (where_fail c.in_err-guard-in-Ok.field-0.0 reader c.args.depth (pattern_view c.in-Ok.pattern) c.args.rest.now (sym c.is_word.ensures.value ∙ c.if-not-is_word.false) (rw (← c.after-start.ensures.value) c.in_err-guard-in-Ok.ensures.gives))

pub clauses::where_of-returns-in_ok-guard-in-Ok-clause-gives : goal.clauses::where_of-returns-in_ok-guard-in-Ok-clause-gives
clauses::where_of-returns-in_ok-guard-in-Ok-clause-gives t c =
    rw (c.guarded_head-head.ensures, c.in-Ok.ensures.one) (where_one reader c.args.depth (pattern_view c.in-Ok.pattern) c.args.rest.now (sym c.is_word.ensures.value ∙ c.if-not-is_word.false) ∙ rw (← c.after-start.ensures.value, c.in_ok-guard-in-Ok.ensures.gives) refl)

pub clauses::where_of-returns-in-Err-clause-gives : goal.clauses::where_of-returns-in-Err-clause-gives
clauses::where_of-returns-in-Err-clause-gives t c =
    rw (c.case_head-in-Err.ensures, c.in-Err.ensures.other.0) (where_many reader c.args.depth (map pattern_view c.args.patterns) c.args.rest.now (λ single. c.in-Err.ensures.other.1 (sym (length-map c.args.patterns pattern_view) ∙ single)))

pub clauses::clauses_goal-returns-in_err-clause-clause-gives : goal.clauses::clauses_goal-returns-in_err-clause-clause-gives
clauses::clauses_goal-returns-in_err-clause-clause-gives t c =
    let p = err_from_is_err_and c.from_residual.result c.from_residual.ensures.1 in
    rw (p.1, p.2) (clauses_fail c.in_err-clause.field-0.0 c.args.depth c.args.rest.now c.loop-alloc.found c.loop-alloc.height c.loop-alloc.left.now (sym c.is_mark.ensures.value ∙ c.loop-alloc-test.true) c.in_err-clause.ensures.gives c.loop-alloc.invariant)

pub clauses::clauses_goal-loop-alloc-preserved : goal.clauses::clauses_goal-loop-alloc-preserved
clauses::clauses_goal-loop-alloc-preserved t c =
    rw (c.in_ok-push.ensures.ok, c.larger-height.ensures) (clauses_go c.args.depth c.args.rest.now c.loop-alloc.found c.loop-alloc.height c.loop-alloc.left.now c.in_ok-clause.clause c.in_ok-clause.more_height c.in_ok-clause.more.now
    (sym c.is_mark.ensures.value ∙ c.loop-alloc-test.true) c.in_ok-clause.ensures.gives c.in_ok-clause.ensures.height c.in_ok-clause.ensures.fits c.in_ok-clause.ensures.shorter c.loop-alloc.invariant)

pub clauses::clauses_goal-returns-clause-gives : goal.clauses::clauses_goal-returns-clause-gives
clauses::clauses_goal-returns-clause-gives t c = clauses_end c.args.depth c.args.rest.now c.loop-alloc.found c.loop-alloc.height c.loop-alloc.left.now (sym c.is_mark.ensures.value ∙ c.loop-alloc-test.false) c.loop-alloc.invariant
