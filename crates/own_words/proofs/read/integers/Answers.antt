use Rattle.std.proofs.lemmas.Result.{err_from_is_err_and}
use Rattle.own_words.proofs.Numbers.{integers_more, integers_none}
use Rattle.own_words.proofs.read.integers.Goals as goal

pub returns-in_err-number-clause-usage : goal.returns-in_err-number-clause-usage
returns-in_err-number-clause-usage c =
    let p = err_from_is_err_and c.from_residual.result c.from_residual.ensures.1 in
    rw p.1 (λ is input h. integers_none c.args.texts.now input c.loop-text.text-index _ c.loop-text-test.true c.in_err-number.ensures.usage h)

pub loop-text-preserved : goal.loop-text-preserved
loop-text-preserved c =
    integers_more c.args.texts.now c.loop-text.input c.push.new.self c.loop-text.text-index _ c.in_ok-number.number c.loop-text-test.true c.loop-text.invariant
    c.in_ok-number.ensures.ok c.in_ok-push.ensures.ok
