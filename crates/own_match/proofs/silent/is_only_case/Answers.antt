use Rattle.std.proofs.Common.{◌≡◌, Some, slice_get, ap, sym, refl, ◌∙◌, subst}
use Rattle.own_shapes.specs.Types.{payloads_of, case_types}
use Rattle.own_table.specs.Table.{shape_in_table}
use Rattle.own_match.specs.Search.{no_others}
use Rattle.own_match.specs.View.{AreTypes}
use Rattle.own_match.proofs.Enums.{only_case_of, case_types_in, case_at, got}
use Rattle.own_match.proofs.silent.is_only_case.Goals as goal

pub loop-number-init : goal.loop-number-init
loop-number-init c =
    let table = c.args.table.now in
    ap (λ xs. no_others c.args.case 0 (payloads_of (shape_in_table table) (case_types xs))) c.cases-info-items.ensures ∙ sym (only_case_of table c.args.ty c.args.case c.requires.typed c.requires.is_enum)

pub all_have_values-requires : goal.all_have_values-requires
all_have_values-requires c =
    let table = c.args.table.now in
    let items = c.cases-info-items.result.now in
    let info = c.info-item.result in
    let i = c.loop-number.number in
    let at : slice_get items i ≡ Some info = got items i info c.loop-number-test.true c.info-item.is in
    subst (AreTypes table) (sym c.as_slice.ensures)
    (case_types_in table c.args.ty i info c.requires.typed (c.requires.is_enum, case_at table c.args.ty items i i info c.cases-info-items.ensures refl at))
