use Rattle.std.proofs.Common.{◌≡◌, drop}
use Rattle.own_table.specs.Table.{shape_in_table}
use Rattle.own_shapes.specs.Types.{payloads_of, case_types}
use Rattle.own_match.specs.Search.{no_others, is_only_case}
use Rattle.own_match.proofs.silent.is_only_case.Given as goal

abbrev pub invariant-loop-number : goal.invariant-loop-number
invariant-loop-number l =
    no_others l.case l.number (payloads_of (shape_in_table l.table) (case_types (drop l.number l.info-items))) ≡ is_only_case (shape_in_table l.table l.fn.ty) l.case
