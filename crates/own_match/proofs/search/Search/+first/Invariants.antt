use Rattle.std.proofs.Common.{◌≡◌, ◌+◌, ◌*◌, drop}
use Rattle.own_table.specs.Table.{shape_in_table}
use Rattle.own_shapes.specs.Types.{payloads_of, case_types}
use Rattle.own_match.specs.First.{first_case, first_form, first_of_columns}
use Rattle.own_match.specs.View.{said_all, columns_held, forms_and}
use Rattle.own_match.specs.Weights.{weight}
use Rattle.own_match.proofs.search.Search.+first.Given as goal

abbrev pub decreases-first_form : goal.decreases-first_form
decreases-first_form l = 3 * weight (shape_in_table l.self.now.table.now l.column.now.ty) + 2

abbrev pub decreases-first_case : goal.decreases-first_case
decreases-first_case l = 3 * weight (shape_in_table l.self.now.table.now l.column.now.ty) + 1

abbrev pub decreases-first_of_case : goal.decreases-first_of_case
decreases-first_of_case l = 3 * weight (shape_in_table l.self.now.table.now l.column.now.ty)

abbrev pub invariant-first_case-loop-at : goal.invariant-first_case-loop-at
invariant-first_case-loop-at l =
    first_case (payloads_of (shape_in_table l.self.table.now) (case_types (drop l.at l.info-items))) l.at (said_all l.column.cells.items)
    ≡ first_form (shape_in_table l.self.table.now l.column.ty) (said_all l.column.cells.items)

abbrev pub invariant-first_of_case-loop-column : goal.invariant-first_of_case-loop-column
invariant-first_of_case-loop-column l =
    forms_and l.forms (first_of_columns (columns_held (shape_in_table l.self.table.now) (drop l.column-index l.column-items)))
    ≡ first_of_columns (columns_held (shape_in_table l.self.table.now) l.column-items)
