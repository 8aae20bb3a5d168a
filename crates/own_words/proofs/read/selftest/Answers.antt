use Rattle.std.proofs.Common.{[]}
use Rattle.std.proofs.lemmas.Result.{err_from_is_err_and}
use Rattle.own_words.specs.Seen.{seen}
use Rattle.own_words.proofs.Commands.{no_selftest, size_read}
use Rattle.own_words.proofs.read.selftest.Goals as goal

pub returns-in_err-size-in-Some-len2-clause-usage : goal.returns-in_err-size-in-Some-len2-clause-usage
returns-in_err-size-in-Some-len2-clause-usage c =
    let p = err_from_is_err_and c.from_residual-in_err-size-in-Some-len2.result c.from_residual-in_err-size-in-Some-len2.ensures.1 in
    let none = rw c.in-Some-len2.is at c.in_err-size-in-Some-len2.ensures.usage in
    rw p.1 (λ is. no_selftest (seen c.args.given.now) (λ a n h.
    let k = size_read c.in-Some-len2.field-0 c.args.given.now.words (record { ref_ptr = (0, 0); now = [] }) a n c.in-Some-len2.is h in
    none n k.0 k.1 k.2))
