use Rattle.std.proofs.Common.{◌≡◌, ◌+◌, ◌*◌, drop}
use Rattle.own_table.specs.Table.{shape_in_table}
use Rattle.own_shapes.specs.Types.{payloads_of, case_types}
use Rattle.own_match.specs.Search.{rising, gap_in_numbers, gap_in_cases}
use Rattle.own_match.specs.View.{said_all, columns_held, rest_of, gap_from}
use Rattle.own_match.specs.Weights.{columns_weight, weight_from}
use Rattle.own_match.proofs.search.Search.+gap.Given as goal

abbrev pub decreases-first_gap : goal.decreases-first_gap
decreases-first_gap l = 5 * columns_weight (columns_held (shape_in_table l.self.now.table.now) l.todo.now) + 4

abbrev pub decreases-gap_at : goal.decreases-gap_at
decreases-gap_at l = 5 * weight_from (shape_in_table l.self.now.table.now) l.column.now l.rest.now + 3

abbrev pub decreases-gap_in_cases : goal.decreases-gap_in_cases
decreases-gap_in_cases l = 5 * weight_from (shape_in_table l.self.now.table.now) l.column.now l.rest.now + 1

abbrev pub decreases-gap_in_numbers : goal.decreases-gap_in_numbers
decreases-gap_in_numbers l = 5 * weight_from (shape_in_table l.self.now.table.now) l.column.now l.rest.now + 1

abbrev pub decreases-gap_in_truths : goal.decreases-gap_in_truths
decreases-gap_in_truths l = 5 * weight_from (shape_in_table l.self.now.table.now) l.column.now l.rest.now + 1

abbrev pub decreases-under : goal.decreases-under
decreases-under l = 5 * weight_from (shape_in_table l.self.now.table.now) l.column.now l.rest.now

abbrev pub decreases-gap_in_others : goal.decreases-gap_in_others
decreases-gap_in_others l = 5 * weight_from (shape_in_table l.self.now.table.now) l.column.now l.rest.now

abbrev pub decreases-under_case : goal.decreases-under_case
decreases-under_case l = 5 * weight_from (shape_in_table l.self.now.table.now) l.column.now l.rest.now

abbrev pub invariant-gap_in_cases-loop-at : goal.invariant-gap_in_cases-loop-at
invariant-gap_in_cases-loop-at l =
    gap_in_cases (payloads_of (shape_in_table l.self.table.now) (case_types (drop l.at l.info-items))) l.at (said_all l.column.cells.items) (rest_of (shape_in_table l.self.table.now) l.rest) l.live
    ≡ gap_from (shape_in_table l.self.table.now) l.column l.rest l.live

abbrev pub invariant-gap_in_numbers-loop-number : goal.invariant-gap_in_numbers-loop-number
invariant-gap_in_numbers-loop-number l =
    gap_in_numbers (drop l.number-index l.number-items) (said_all l.column.cells.items) (rest_of (shape_in_table l.self.table.now) l.rest) l.live
    ≡ gap_in_numbers (rising (said_all l.column.cells.items)) (said_all l.column.cells.items) (rest_of (shape_in_table l.self.table.now) l.rest) l.live
