use Rattle.std.proofs.Common.{arith, sym, ◌∙◌}
use Rattle.own_expr.proofs.Names.{go, stop, none, wrong}
use Rattle.own_expr.proofs.paths.names_at.Goals as goal

pub returns-in_default-clause-value : goal.returns-in_default-clause-value
returns-in_default-clause-value c =
    none c.args.rest.now c.loop-found.found c.loop-found.left.now (rw c.in_default.is at c.in_ok-name.ensures.value) c.loop-found.invariant

pub loop-found-preserved : goal.loop-found-preserved
loop-found-preserved c =
    go c.args.rest.now c.loop-found.found c.push.new.self c.loop-found.left.now c.after-more.result.now c.after-left.result.now c.in-Some.name (rw c.in-Some.is at c.in_ok-name.ensures.value) c.after-more.ensures.value (sym c.is_mark.ensures.value ∙ c.if-not-is_mark.false)
    c.in_ok-push.ensures.ok c.after-left.ensures.value (omega (arith, c.after-left.ensures.within, c.after-more.ensures.within)) c.loop-found.invariant

pub returns-then-is_word-clause-value : goal.returns-then-is_word-clause-value
returns-then-is_word-clause-value c =
    stop c.args.rest.now c.loop-found.found c.push.new.self c.loop-found.left.now c.after-more.result.now c.after.result.now c.in-Some.name (rw c.in-Some.is at c.in_ok-name.ensures.value) c.after-more.ensures.value (sym c.is_mark.ensures.value ∙ c.if-not-is_mark.true)
    (sym c.is_word.ensures.value ∙ c.if-is_word.true) c.in_ok-push.ensures.ok c.after.ensures.value c.loop-found.invariant

pub returns-then-not-is_mark-clause-value : goal.returns-then-not-is_mark-clause-value
returns-then-not-is_mark-clause-value c =
    wrong c.args.rest.now c.loop-found.found c.loop-found.left.now c.after-more.result.now c.in-Some.name (rw c.in-Some.is at c.in_ok-name.ensures.value) c.after-more.ensures.value (sym c.is_mark.ensures.value ∙ c.if-not-is_mark.true)
    (sym c.is_word.ensures.value ∙ c.if-is_word.false) c.loop-found.invariant
