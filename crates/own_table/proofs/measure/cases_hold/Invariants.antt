use Rattle.std.proofs.Common.{◌≡◌, drop}
use Rattle.own_table.specs.ByParts.{one_case_holds}
use Rattle.own_table.proofs.measure.cases_hold.Given as goal

abbrev pub invariant-loop-case : goal.invariant-loop-case
invariant-loop-case l = one_case_holds l.measures (drop l.case-index l.cases) ≡ one_case_holds l.measures l.cases
