use Rattle.std.proofs.Common.{◌≡◌, drop}
use Rattle.std.specs.List.{list_all}
use Rattle.own_table.specs.Fitting.{has_few_payloads}
use Rattle.own_table.proofs.fitting.have_few_payloads.Given as goal

abbrev pub invariant-loop-case : goal.invariant-loop-case
invariant-loop-case l = list_all has_few_payloads (drop l.case-index l.cases) ≡ list_all has_few_payloads l.cases
