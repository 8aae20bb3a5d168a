use Rattle.std.proofs.lemmas.Result.{IfOk-weaker}
use Rattle.own_words.proofs.Telling.{line_told}
use Rattle.own_words.proofs.told.line.Goals as goal

pub returns : goal.returns
returns c =
    IfOk-weaker c.subcommand-5.result _ _
    (λ new added. line_told _ _ _ _ _ _ _ _ _ _ new c.bare.ensures c.in_ok-check.ensures c.in_ok-subcommand.ensures c.in_ok-build.ensures c.in_ok-subcommand-2.ensures
    c.in_ok-run.ensures c.in_ok-subcommand-3.ensures c.in_ok-exec.ensures c.in_ok-subcommand-4.ensures c.in_ok-selftest.ensures added)
    c.subcommand-5.ensures
