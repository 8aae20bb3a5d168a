use Rattle.std.proofs.Common.{sym, ◌∙◌, Some}
use Rattle.std.proofs.lemmas.Result.{err_from_is_err_and}
use Rattle.own_words.specs.Seen.{seen}
use Rattle.own_words.proofs.Commands.{no_build}
use Rattle.own_words.proofs.read.build.Goals as goal

pub returns-in_err-file-clause-usage : goal.returns-in_err-file-clause-usage
returns-in_err-file-clause-usage c =
    let p = err_from_is_err_and c.from_residual.result c.from_residual.ensures.1 in
    rw p.1 (λ is. no_build (seen c.args.given.now) (λ f o a b. c.in_err-file.ensures.usage (sym p.2 ∙ is) f a))

pub returns-in_err-out-clause-usage : goal.returns-in_err-out-clause-usage
returns-in_err-out-clause-usage c =
    let p = err_from_is_err_and c.from_residual-in_err-out.result c.from_residual-in_err-out.ensures.1 in
    rw p.1 (λ is. no_build (seen c.args.given.now) (λ f o a b. c.in_err-out.ensures.usage (sym p.2 ∙ is) (Some o) b))
