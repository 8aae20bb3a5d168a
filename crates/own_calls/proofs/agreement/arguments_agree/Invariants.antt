use Rattle.std.proofs.Common.{◌≡◌, drop}
use Rattle.own_calls.specs.Arguments.{arguments_agree}
use Rattle.own_calls.proofs.agreement.arguments_agree.Given as goal

abbrev pub invariant-loop-number : goal.invariant-loop-number
invariant-loop-number l = arguments_agree l.end (drop l.number l.params) (drop l.number l.args) ≡ arguments_agree l.end l.params l.args
