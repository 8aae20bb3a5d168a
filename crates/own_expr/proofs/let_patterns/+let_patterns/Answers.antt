use Rattle.std.proofs.Common.{sym, ◌∙◌, arith}
use Rattle.std.proofs.lemmas.Result.{err_from_is_err_and}
use Rattle.own_grammar.specs.declared.limits.TheConstants.{MOST_PATTERN_LEVELS}
use Rattle.own_expr.proofs.LetPatternList.{go, stop, fail}
use Rattle.own_expr.proofs.let_patterns.+let_patterns.Goals as goal

pub let_pattern_list-returns-in_err-pattern-clause-gives : goal.let_pattern_list-returns-in_err-pattern-clause-gives
let_pattern_list-returns-in_err-pattern-clause-gives t c =
    let p = err_from_is_err_and c.from_residual.result c.from_residual.ensures.1 in
    rw (p.1, p.2) (fail c.in_err-pattern.field-0.0 MOST_PATTERN_LEVELS c.args.level c.args.rest.now c.loop-found.found c.loop-found.left.now c.in_err-pattern.ensures.gives c.loop-found.invariant)

pub let_pattern_list-returns-then-not-is_mark-clause-gives : goal.let_pattern_list-returns-then-not-is_mark-clause-gives
let_pattern_list-returns-then-not-is_mark-clause-gives t c =
    rw c.in_ok-push.ensures.ok (stop MOST_PATTERN_LEVELS c.args.level c.args.rest.now c.loop-found.found c.loop-found.left.now c.in_ok-pattern.pattern c.in_ok-pattern.more.now c.in_ok-pattern.ensures.gives (sym c.is_mark.ensures.value ∙ c.if-not-is_mark.true) c.loop-found.invariant)

pub let_pattern_list-loop-found-preserved : goal.let_pattern_list-loop-found-preserved
let_pattern_list-loop-found-preserved t c =
    rw c.in_ok-push.ensures.ok (go MOST_PATTERN_LEVELS c.args.level c.args.rest.now c.loop-found.found c.loop-found.left.now c.in_ok-pattern.pattern c.in_ok-pattern.more.now c.after-left.result.now
    c.in_ok-pattern.ensures.gives (sym c.is_mark.ensures.value ∙ c.if-not-is_mark.false) c.after-left.ensures.value (omega (arith, c.after-left.ensures.within, c.in_ok-pattern.ensures.shorter)) c.loop-found.invariant)
