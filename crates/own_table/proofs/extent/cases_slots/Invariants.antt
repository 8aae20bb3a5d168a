use Rattle.std.proofs.Common.{◌≡◌, ◌*◌, ◌≤◌, Some, drop}
use Rattle.own_tree.specs.declared.limits.TheConstants.{MOST_PARAMETERS, MOST_TYPE_SLOTS}
use Rattle.own_table.specs.Extents.{larger, most_of_cases}
use Rattle.own_table.proofs.extent.cases_slots.Given as goal

abbrev pub invariant-loop-case : goal.invariant-loop-case
invariant-loop-case l = record {
  value : larger (Some l.most) (most_of_cases l.known (drop l.case-index l.cases)) ≡ most_of_cases l.known l.cases;
  small : l.most ≤ MOST_TYPE_SLOTS * MOST_PARAMETERS;
}
