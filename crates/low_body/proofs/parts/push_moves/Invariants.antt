use Rattle.std.proofs.Common.{◌≡◌, ◌++◌, ◌+◌, ◌-◌, ◌≤◌}
use Rattle.low_laws.specs.Lower.{moves_code}
use Rattle.low_body.proofs.parts.push_moves.Given as goal

abbrev pub invariant-loop-word : goal.invariant-loop-word
invariant-loop-word l =
    (l.code.items ++ moves_code (l.count - l.word) (l.from + l.word) (l.to + l.word) ≡ l.fn.code.items ++ moves_code l.count l.from l.to)
    × (l.word ≤ l.count)
