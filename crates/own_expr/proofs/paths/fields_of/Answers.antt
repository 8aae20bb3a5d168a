use Rattle.std.proofs.Common.{arith, sym, ◌∙◌}
use Rattle.own_expr.proofs.Fields.{go, stop, wrong}
use Rattle.own_expr.proofs.paths.fields_of.Goals as goal

pub returns-in_default-clause-gives : goal.returns-in_default-clause-gives
returns-in_default-clause-gives c =
    wrong c.args.rest.now c.loop-alloc.found c.loop-alloc.left.now c.after-dotted.result.now (sym c.is_mark.ensures.value ∙ c.loop-alloc-test.true) c.after-dotted.ensures.value (rw c.in_default.is at c.in_ok-name.ensures.value) c.loop-alloc.invariant

pub loop-alloc-preserved : goal.loop-alloc-preserved
loop-alloc-preserved c =
    go c.args.rest.now c.loop-alloc.found c.push.new.self c.loop-alloc.left.now c.after-dotted.result.now c.after-left.result.now c.in-Some.name (sym c.is_mark.ensures.value ∙ c.loop-alloc-test.true) c.after-dotted.ensures.value (rw c.in-Some.is at c.in_ok-name.ensures.value)
    c.in_ok-push.ensures.ok c.after-left.ensures.value (omega (arith, c.after-left.ensures.within, c.after-dotted.ensures.within)) c.loop-alloc.invariant

pub returns-clause-gives : goal.returns-clause-gives
returns-clause-gives c = stop c.args.rest.now c.loop-alloc.found c.loop-alloc.left.now (sym c.is_mark.ensures.value ∙ c.loop-alloc-test.false) c.loop-alloc.invariant
