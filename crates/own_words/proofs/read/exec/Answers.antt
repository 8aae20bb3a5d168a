use Rattle.std.proofs.Common.{sym, ◌∙◌}
use Rattle.std.proofs.lemmas.Result.{err_from_is_err_and}
use Rattle.own_words.specs.Seen.{seen}
use Rattle.own_words.proofs.Commands.{no_exec}
use Rattle.own_words.proofs.read.exec.Goals as goal

pub returns-in_err-file-clause-usage : goal.returns-in_err-file-clause-usage
returns-in_err-file-clause-usage c =
    let p = err_from_is_err_and c.from_residual.result c.from_residual.ensures.1 in
    rw p.1 (λ is. no_exec (seen c.args.given.now) (λ f n z a s. c.in_err-file.ensures.usage (sym p.2 ∙ is) f z a))

pub returns-in_err-steps-clause-usage : goal.returns-in_err-steps-clause-usage
returns-in_err-steps-clause-usage c =
    let p = err_from_is_err_and c.from_residual-in_err-steps.result c.from_residual-in_err-steps.ensures.1 in
    rw p.1 (λ is. no_exec (seen c.args.given.now) (λ f n z a s. c.in_err-steps.ensures.usage n s))
