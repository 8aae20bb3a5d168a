use Rattle.std.proofs.lemmas.Result.{IfOk-weaker}
use Rattle.std.proofs.Common.{codes}
use Rattle.clap.specs.Simple.{new_app, with_rule}
use Rattle.own_words.specs.Told.{words_rule, steps_rule}
use Rattle.own_words.proofs.Telling.{told_with}
use Rattle.own_words.proofs.told.exec.Goals as goal

pub returns : goal.returns
returns c =
    let words_told = told_with (new_app (codes "exec")) words_rule _ c.words.result _ (c.new.ensures.app, c.new.ensures.local) c.words.ensures c.in_ok-arg.ensures in
    IfOk-weaker c.arg-2.result _ _ (λ new added. told_with (with_rule (new_app (codes "exec")) words_rule) steps_rule _ c.steps.result new words_told c.steps.ensures added) c.arg-2.ensures
