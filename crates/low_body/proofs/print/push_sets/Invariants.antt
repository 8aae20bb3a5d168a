use Rattle.std.proofs.Common.{◌≡◌, ◌++◌, ◌≤◌}
use Rattle.low_laws.specs.Lower.{sets_code}
use Rattle.low_body.proofs.print.push_sets.Given as goal

abbrev pub invariant-loop-word : goal.invariant-loop-word
invariant-loop-word l = (l.code.items ≡ l.fn.code.items ++ sets_code l.word) × (l.word ≤ l.words)
