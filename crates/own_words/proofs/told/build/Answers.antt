use Rattle.std.proofs.lemmas.Result.{IfOk-weaker}
use Rattle.std.proofs.Common.{codes}
use Rattle.clap.specs.Simple.{new_app, with_rule}
use Rattle.own_words.specs.Told.{words_rule, out_rule, trace_rule}
use Rattle.own_words.proofs.Telling.{told_with}
use Rattle.own_words.proofs.told.build.Goals as goal

pub returns : goal.returns
returns c =
    let words_told = told_with (new_app (codes "build")) words_rule _ c.words.result _ (c.new.ensures.app, c.new.ensures.local) c.words.ensures c.in_ok-arg.ensures in
    let out_told = told_with (with_rule (new_app (codes "build")) words_rule) out_rule _ c.out.result _ words_told c.out.ensures c.in_ok-arg-2.ensures in
    IfOk-weaker c.arg-3.result _ _ (λ new added. told_with (with_rule (with_rule (new_app (codes "build")) words_rule) out_rule) trace_rule _ c.trace.result new out_told c.trace.ensures added) c.arg-3.ensures
