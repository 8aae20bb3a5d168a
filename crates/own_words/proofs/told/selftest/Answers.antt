use Rattle.std.proofs.lemmas.Result.{IfOk-weaker}
use Rattle.std.proofs.Common.{codes}
use Rattle.clap.specs.Simple.{new_app}
use Rattle.own_words.specs.Told.{words_rule}
use Rattle.own_words.proofs.Telling.{told_with}
use Rattle.own_words.proofs.told.selftest.Goals as goal

pub returns : goal.returns
returns c =
    IfOk-weaker c.arg.result _ _ (λ new added. told_with (new_app (codes "selftest")) words_rule _ c.words.result new (c.new.ensures.app, c.new.ensures.local) c.words.ensures added) c.arg.ensures
