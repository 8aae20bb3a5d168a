use Rattle.std.proofs.Common.{true, false, sym, ◌∙◌}
use Rattle.own_calls.proofs.Agreeing.{other_number, one_more}
use Rattle.own_calls.proofs.agreement.arguments_agree.Goals as goal

pub returns-then-params-args : goal.returns-then-params-args
returns-then-params-args c = sym (other_number c.args.end c.args.params.now c.args.args.now c.if-params-args.true)

pub returns-then-not-agrees : goal.returns-then-not-agrees
returns-then-not-agrees c =
    one_more c.args.end c.args.params.now c.args.args.now c.if-params-args.false c.loop-number.number c.index-params-number.result c.index-args-number.result
    c.is_trailing-trailing.result false c.loop-number-test.true c.index-params-number.is c.index-args-number.is c.is_trailing-trailing.ensures c.if-not-agrees.ensures
    ∙ c.loop-number.invariant

pub loop-number-preserved : goal.loop-number-preserved
loop-number-preserved c =
    one_more c.args.end c.args.params.now c.args.args.now c.if-params-args.false c.loop-number.number c.index-params-number.result c.index-args-number.result
    c.is_trailing-trailing.result true c.loop-number-test.true c.index-params-number.is c.index-args-number.is c.is_trailing-trailing.ensures c.if-not-agrees.ensures
    ∙ c.loop-number.invariant
