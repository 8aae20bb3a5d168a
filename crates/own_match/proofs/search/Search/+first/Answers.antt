-- The first form of a type, place after place.
use Rattle.std.proofs.Common.{◌≡◌, ◌<◌, ◌≤◌, ◌+◌, ◌∙◌, ap, sym, refl, subst, arith, false, Some, None, slice_get, drop, map}
use Rattle.own_tree.specs.TypedView.{pats_of, pattern_view}
use Rattle.own_table.specs.Table.{shape_in_table}
use Rattle.own_shapes.specs.Types.{shapes_of, payloads_of, case_types}
use Rattle.own_match.specs.declared.column.Column.{Column as Held}
use Rattle.own_table.specs.HasValue.{all_have_values}
use Rattle.own_match.specs.Search.{payload_columns}
use Rattle.own_match.specs.First.{case_with, first_forms, first_case, first_of_columns}
use Rattle.own_match.specs.View.{said_all, columns_held, form_held, forms_and, AreTypes}
use Rattle.own_match.specs.Weights.{weight, weights}
use Rattle.own_match.proofs.Enums.{first_enum, case_types_in, case_weight, type_in, part_weight, first_columns, forms_all, drop_past, got, first_step, none_found, found_more, column_type, case_at}
use Rattle.own_match.proofs.Patterns.{case_view}
use Rattle.own_match.proofs.Steps.{forms_none}
use Rattle.own_match.proofs.search.Search.+first.Goals as goal
use Rattle.own_match.proofs.search.Search.+first.Goals.{first_case-then-all_have_values+in_ok-form+in_default, first_case-else-all_have_values}

pub first_case-loop-at-init : goal.first_case-loop-at-init
first_case-loop-at-init t c =
    let table = c.args.self.now.table.now in
    let ty = c.args.column.now.ty in
    let cells = said_all c.args.column.now.cells.items in
    ap (λ xs. first_case (payloads_of (shape_in_table table) (case_types xs)) 0 cells) c.cases-info-items.ensures ∙ sym (first_enum table ty cells c.requires.typed c.requires.is_enum)

pub first_case-first_of_case-requires : goal.first_case-first_of_case-requires
first_case-first_of_case-requires t c =
    let items = c.cases-info-items.result.now in
    let at : slice_get items c.loop-at.at ≡ Some c.info-item.result = got items c.loop-at.at c.info-item.result c.loop-at-test.true c.info-item.is in
    (omega (arith, c.decreases), (c.requires.typed, (c.requires.is_enum, case_at c.args.self.now.table.now c.args.column.now.ty items c.loop-at.at c.loop-at.at c.info-item.result c.cases-info-items.ensures refl at)))

pub first_case-all_have_values-requires : goal.first_case-all_have_values-requires
first_case-all_have_values-requires t c =
    let table = c.args.self.now.table.now in
    let items = c.cases-info-items.result.now in
    let info = c.info-item.result in
    let i = c.loop-at.at in
    let at : slice_get items i ≡ Some info = got items i info c.loop-at-test.true c.info-item.is in
    subst (AreTypes table) (sym c.as_slice.ensures)
    (case_types_in table c.args.column.now.ty i info c.requires.typed (c.requires.is_enum, case_at table c.args.column.now.ty items i i info c.cases-info-items.ensures refl at))

pub first_case-loop-at-preserved : goal.first_case-loop-at-preserved
first_case-loop-at-preserved t c =
    let table = c.args.self.now.table.now in
    let items = c.cases-info-items.result.now in
    let cells = said_all c.args.column.now.cells.items in
    let info = c.info-item.result in
    let i = c.loop-at.at in
    let at : slice_get items i ≡ Some info = got items i info c.loop-at-test.true c.info-item.is in
    let none : case_with i (first_forms (shapes_of (shape_in_table table) info.payloads) i 0 cells) ≡ None = elim c.if-all_have_values.branch [
      | first_case-then-all_have_values+in_ok-form+in_default w ↦ sym w.in_ok-form.ensures ∙ ap form_held w.in_default.is
      | first_case-else-all_have_values w ↦
          let empty : all_have_values (shapes_of (shape_in_table table) info.payloads) ≡ false =
          ap (λ tys. all_have_values (shapes_of (shape_in_table table) tys)) (sym c.as_slice.ensures) ∙ sym c.all_have_values.ensures ∙ w.if-all_have_values.false in
          ap (case_with i) (forms_none (shapes_of (shape_in_table table) info.payloads) i 0 cells empty)
    ] in
    sym (first_step (shape_in_table table) cells items i info at none) ∙ c.loop-at.invariant

pub first_of_case-first_form-requires : goal.first_of_case-first_form-requires
first_of_case-first_form-requires t c =
    let table = c.args.self.now.table.now in
    let items = c.as_slice-column-items.result.now in
    let tys = c.args.info.now.payloads in
    let i = c.loop-column.column-index in
    let at : slice_get items i ≡ Some c.column-item.result = got items i c.column-item.result c.loop-column-test.true c.column-item.is in
    let same : map (λ c. c.ty) items ≡ tys = ap (map (λ (c : Held). c.ty)) c.as_slice-column-items.ensures.value ∙ c.in_ok-columns.ensures.types ∙ c.as_slice.ensures in
    let one : slice_get tys i ≡ Some c.column-item.result.ty = column_type items tys i c.column-item.result same at in
    let typed : AreTypes table tys = case_types_in table c.args.column.now.ty c.args.case c.args.info.now c.requires.typed c.requires.case_is in
    let less : weights (shapes_of (shape_in_table table) tys) < weight (shape_in_table table c.args.column.now.ty) = case_weight table c.args.column.now.ty c.args.case c.args.info.now c.requires.typed c.requires.case_is in
    let part : weight (shape_in_table table c.column-item.result.ty) ≤ weights (shapes_of (shape_in_table table) tys) = part_weight table tys i c.column-item.result.ty one in
    (omega (arith, c.decreases, less, part), type_in table tys i c.column-item.result.ty typed one)

pub first_of_case-returns-in-None : goal.first_of_case-returns-in-None
first_of_case-returns-in-None t c =
    let table = c.args.self.now.table.now in
    let items = c.as_slice-column-items.result.now in
    let cells = said_all c.args.column.now.cells.items in
    let i = c.loop-column.column-index in
    let at : slice_get items i ≡ Some c.column-item.result = got items i c.column-item.result c.loop-column-test.true c.column-item.is in
    let held : columns_held (shape_in_table table) items ≡ payload_columns (shapes_of (shape_in_table table) c.args.info.now.payloads) c.args.case 0 cells =
    ap (columns_held (shape_in_table table)) c.as_slice-column-items.ensures.value ∙ c.in_ok-columns.ensures.held
    ∙ ap (λ tys. payload_columns (shapes_of (shape_in_table table) tys) c.args.case 0 (said_all c.as_slice-2.result.now)) c.as_slice.ensures
    ∙ ap (λ xs. payload_columns (shapes_of (shape_in_table table) c.args.info.now.payloads) c.args.case 0 (said_all xs)) c.as_slice-2.ensures.value in
    let none = none_found (shape_in_table table) items i c.column-item.result at c.loop-column.forms (first_of_columns (columns_held (shape_in_table table) items)) (sym c.in_ok-form.ensures ∙ ap form_held c.in-None.is) c.loop-column.invariant in
    sym (ap (case_with c.args.case) (sym (first_columns (shapes_of (shape_in_table table) c.args.info.now.payloads) c.args.case 0 cells) ∙ ap first_of_columns (sym held) ∙ none))

pub first_of_case-loop-column-preserved : goal.first_of_case-loop-column-preserved
first_of_case-loop-column-preserved t c =
    let table = c.args.self.now.table.now in
    let items = c.as_slice-column-items.result.now in
    let i = c.loop-column.column-index in
    let at : slice_get items i ≡ Some c.column-item.result = got items i c.column-item.result c.loop-column-test.true c.column-item.is in
    ap (λ fs. forms_and fs (first_of_columns (columns_held (shape_in_table table) (drop (i + 1) items)))) c.in_ok-push-in-Some.ensures.ok
    ∙ found_more (shape_in_table table) items i c.column-item.result at c.loop-column.forms c.in-Some.form (sym c.in_ok-form.ensures ∙ ap form_held c.in-Some.is) ∙ c.loop-column.invariant

pub first_of_case-returns : goal.first_of_case-returns
first_of_case-returns t c =
    let table = c.args.self.now.table.now in
    let items = c.as_slice-column-items.result.now in
    let cells = said_all c.args.column.now.cells.items in
    let i = c.loop-column.column-index in
    let held : columns_held (shape_in_table table) items ≡ payload_columns (shapes_of (shape_in_table table) c.args.info.now.payloads) c.args.case 0 cells =
    ap (columns_held (shape_in_table table)) c.as_slice-column-items.ensures.value ∙ c.in_ok-columns.ensures.held
    ∙ ap (λ tys. payload_columns (shapes_of (shape_in_table table) tys) c.args.case 0 (said_all c.as_slice-2.result.now)) c.as_slice.ensures
    ∙ ap (λ xs. payload_columns (shapes_of (shape_in_table table) c.args.info.now.payloads) c.args.case 0 (said_all xs)) c.as_slice-2.ensures.value in
    let all : Some (pats_of (map pattern_view c.loop-column.forms)) ≡ first_of_columns (columns_held (shape_in_table table) items) =
    sym (forms_all c.loop-column.forms) ∙ ap (λ xs. forms_and c.loop-column.forms (first_of_columns (columns_held (shape_in_table table) xs))) (sym (drop_past items i c.loop-column-test.false)) ∙ c.loop-column.invariant in
    ap Some (case_view c.args.case c.loop-column.forms)
    ∙ ap (case_with c.args.case) (all ∙ ap first_of_columns held ∙ first_columns (shapes_of (shape_in_table table) c.args.info.now.payloads) c.args.case 0 cells)
