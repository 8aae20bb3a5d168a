use Rattle.std.proofs.Common.{◌≡◌, drop}
use Rattle.own_judged.specs.Names.{case_from}
use Rattle.own_scope.proofs.types.case_in.Given as goal

abbrev pub invariant-loop-number : goal.invariant-loop-number
invariant-loop-number l = case_from l.number (drop l.number l.cases) l.name ≡ case_from 0 l.cases l.name
