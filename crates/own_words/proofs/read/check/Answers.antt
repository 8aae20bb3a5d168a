use Rattle.std.proofs.Common.{sym, ◌∙◌}
use Rattle.std.proofs.lemmas.Result.{err_from_is_err_and}
use Rattle.own_words.specs.Seen.{seen}
use Rattle.own_words.proofs.Commands.{no_check}
use Rattle.own_words.proofs.read.check.Goals as goal

pub returns-in_err-file-clause-usage : goal.returns-in_err-file-clause-usage
returns-in_err-file-clause-usage c =
    let p = err_from_is_err_and c.from_residual.result c.from_residual.ensures.1 in
    rw p.1 (λ is. no_check (seen c.args.given.now) (λ f h. c.in_err-file.ensures.usage (sym p.2 ∙ is) f h))
