use Rattle.std.proofs.Common.{sym, ◌∙◌}
use Rattle.std.proofs.lemmas.Result.{err_from_is_err_and}
use Rattle.own_words.specs.Seen.{seen}
use Rattle.own_words.proofs.Commands.{no_run}
use Rattle.own_words.proofs.read.run.Goals as goal

pub returns-in_err-file-clause-usage : goal.returns-in_err-file-clause-usage
returns-in_err-file-clause-usage c =
    let p = err_from_is_err_and c.from_residual.result c.from_residual.ensures.1 in
    rw p.1 (λ is. no_run (seen c.args.given.now) (λ f o n z a s b. c.in_err-file.ensures.usage (sym p.2 ∙ is) f z a))

pub returns-in_err-out-clause-usage : goal.returns-in_err-out-clause-usage
returns-in_err-out-clause-usage c =
    let p = err_from_is_err_and c.from_residual-in_err-out.result c.from_residual-in_err-out.ensures.1 in
    rw p.1 (λ is. no_run (seen c.args.given.now) (λ f o n z a s b. c.in_err-out.ensures.usage (sym p.2 ∙ is) o b))

pub returns-in_err-steps-clause-usage : goal.returns-in_err-steps-clause-usage
returns-in_err-steps-clause-usage c =
    let p = err_from_is_err_and c.from_residual-in_err-steps.result c.from_residual-in_err-steps.ensures.1 in
    rw p.1 (λ is. no_run (seen c.args.given.now) (λ f o n z a s b. c.in_err-steps.ensures.usage n s))
