use Rattle.std.proofs.Common.{◌≡◌, drop}
use Rattle.own_judged.specs.Signatures.{number_from}
use Rattle.own_scope.proofs.signatures.number_of.Given as goal

abbrev pub invariant-loop-number : goal.invariant-loop-number
invariant-loop-number l = number_from l.number (drop l.number l.signatures) l.wanted ≡ number_from 0 l.signatures l.wanted
