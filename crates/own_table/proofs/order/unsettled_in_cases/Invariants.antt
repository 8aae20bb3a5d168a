use Rattle.std.proofs.Common.{◌≡◌, drop}
use Rattle.own_table.specs.Order.{first_unsettled}
use Rattle.own_shapes.specs.Types.{all_case_types}
use Rattle.own_table.proofs.order.unsettled_in_cases.Given as goal

abbrev pub invariant-loop-case : goal.invariant-loop-case
invariant-loop-case l = first_unsettled l.marks (all_case_types (drop l.case-index l.cases)) ≡ first_unsettled l.marks (all_case_types l.cases)
