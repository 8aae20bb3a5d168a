use Rattle.std.proofs.lemmas.Result.{IfOk-weaker}
use Rattle.std.proofs.Common.{codes}
use Rattle.clap.specs.Simple.{new_app, with_rule}
use Rattle.own_words.specs.Told.{words_rule, steps_rule, out_rule, trace_rule}
use Rattle.own_words.proofs.Telling.{told_with}
use Rattle.own_words.proofs.told.run.Goals as goal

pub returns : goal.returns
returns c =
    let words_told = told_with (new_app (codes "run")) words_rule _ c.words.result _ (c.new.ensures.app, c.new.ensures.local) c.words.ensures c.in_ok-arg.ensures in
    let steps_told = told_with (with_rule (new_app (codes "run")) words_rule) steps_rule _ c.steps.result _ words_told c.steps.ensures c.in_ok-arg-2.ensures in
    let out_told = told_with (with_rule (with_rule (new_app (codes "run")) words_rule) steps_rule) out_rule _ c.out.result _ steps_told c.out.ensures c.in_ok-arg-3.ensures in
    IfOk-weaker c.arg-4.result _ _ (λ new added. told_with (with_rule (with_rule (with_rule (new_app (codes "run")) words_rule) steps_rule) out_rule) trace_rule _ c.trace.result new out_told c.trace.ensures added) c.arg-4.ensures
