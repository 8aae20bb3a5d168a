-- The search goes from column to column as its model does.
use Rattle.std.proofs.Common.{◌≡◌, ◌<◌, ◌≤◌, ◌+◌, ◌∙◌, ◌++◌, ap, sym, refl, subst, arith, true, false, Some, None, slice_get, length, map, Global, get_or, pos, rules, to_z, of_z, w64}
use Rattle.std.proofs.lemmas.Option.{slice_get-get_or}
use Rattle.own_match.proofs.Patterns.{any_view, number_view, truth_view}
use Rattle.own_tree.specs.TypedSource.{of_number, of_truth}
use Rattle.own_tree.specs.TypedView.{pats_of, pattern_view}
use Rattle.own_table.specs.Table.{shape_in_table}
use Rattle.own_shapes.specs.Types.{shapes_of, payloads_of, case_types}
use Rattle.own_shapes.specs.Types as shape
use Rattle.own_match.specs.First.{case_with, first_forms}
use Rattle.own_match.specs.declared.column.Column.{Column as Held}
use Rattle.own_match.specs.declared.head.Head.TheVariants as head
use Rattle.own_table.specs.HasValue.{all_have_values}
use Rattle.own_match.specs.Search.{narrowed, is_mentioned, rising, led, gathered, count, gap_in_numbers, gap_in_cases, payload_columns}
use Rattle.own_match.specs.View.{said_all, columns_held, column_held, forms_held, rest_of, gap_from, gap_in_case, AreTypes}
use Rattle.own_match.specs.Weights.{weight, weights, columns_weight}
use Rattle.own_match.proofs.Columns.{on_ok}
use Rattle.own_match.proofs.Enums.{gap_enum, case_types_in, case_weight, got, case_at, drop_past}
use Rattle.own_match.proofs.Steps.{others_cover, no_payload_values}
use Rattle.own_match.proofs.NothingSaid.{silent_covers, others_none, before_missing}
use Rattle.own_match.proofs.Taking.{no_case_here, silent_case, number_here, case_gap, count_types, enough_forms, todo_weight, todo_typed}
use Rattle.own_match.proofs.search.Search.+gap.Goals as goal
use Rattle.own_match.proofs.search.Search.+gap.Goals.{gap_in_cases-then-all_have_values+else-not-is_mentioned+in_ok-forms+in_default, gap_in_cases-else-all_have_values}

pub gap_in_cases-loop-at-init : goal.gap_in_cases-loop-at-init
gap_in_cases-loop-at-init t c =
    let table = c.args.self.now.table.now in
    let cells = said_all c.args.column.now.cells.items in
    let next = rest_of (shape_in_table table) c.args.rest.now in
    ap (λ xs. gap_in_cases (payloads_of (shape_in_table table) (case_types xs)) 0 cells next c.args.live.now) c.cases-info-items.ensures
    ∙ sym (gap_enum table c.args.column.now.ty cells next c.args.live.now c.requires.typed c.requires.is_enum)

pub gap_in_cases-under_case-requires : goal.gap_in_cases-under_case-requires
gap_in_cases-under_case-requires t c =
    let items = c.cases-info-items.result.now in
    let at : slice_get items c.loop-at.at ≡ Some c.info-item.result = got items c.loop-at.at c.info-item.result c.loop-at-test.true c.info-item.is in
    (omega (arith, c.decreases), (c.requires.typed, ((c.requires.is_enum, case_at c.args.self.now.table.now c.args.column.now.ty items c.loop-at.at c.loop-at.at c.info-item.result c.cases-info-items.ensures refl at), c.requires.rest_typed)))

pub gap_in_cases-all_have_values-requires : goal.gap_in_cases-all_have_values-requires
gap_in_cases-all_have_values-requires t c =
    let table = c.args.self.now.table.now in
    let items = c.cases-info-items.result.now in
    let info = c.info-item.result in
    let i = c.loop-at.at in
    let at : slice_get items i ≡ Some info = got items i info c.loop-at-test.true c.info-item.is in
    subst (AreTypes table) (sym c.as_slice.ensures)
    (case_types_in table c.args.column.now.ty i info c.requires.typed (c.requires.is_enum, case_at table c.args.column.now.ty items i i info c.cases-info-items.ensures refl at))

pub gap_in_cases-loop-at-preserved : goal.gap_in_cases-loop-at-preserved
gap_in_cases-loop-at-preserved t c =
    let table = c.args.self.now.table.now in
    let S = shape_in_table table in
    let items = c.cases-info-items.result.now in
    let cells = said_all c.args.column.now.cells.items in
    let live = c.args.live.now in
    let next = rest_of S c.args.rest.now in
    let info = c.info-item.result in
    let i = c.loop-at.at in
    let at : slice_get items i ≡ Some info = got items i info c.loop-at-test.true c.info-item.is in
    let none : gap_in_case S i info c.args.column.now c.args.rest.now live ≡ None = elim c.if-all_have_values.branch [
      | gap_in_cases-then-all_have_values+else-not-is_mentioned+in_ok-forms+in_default w ↦ sym w.in_ok-forms.ensures ∙ ap (forms_held {Z = Global}) w.in_default.is
      | gap_in_cases-else-all_have_values w ↦
          let empty : all_have_values (shapes_of S info.payloads) ≡ false =
          ap (λ tys. all_have_values (shapes_of S tys)) (sym c.as_slice.ensures) ∙ sym c.all_have_values.ensures ∙ w.if-all_have_values.false in
          ap (gathered i (count (shapes_of S info.payloads))) (no_payload_values (shapes_of S info.payloads) i cells (columns_held S c.args.rest.now) (narrowed (head.Case i) live cells) empty)
    ] in
    sym (no_case_here S items i info cells next live at none) ∙ c.loop-at.invariant

pub gap_in_numbers-returns-in-Some : goal.gap_in_numbers-returns-in-Some
gap_in_numbers-returns-in-Some t c =
    let S = shape_in_table c.args.self.now.table.now in
    let items = c.as_slice-number-items.result.now in
    let i = c.loop-number.number-index in
    let n = to_z w64 (of_z w64 (get_or items i (pos 0))) in
    let same : n ≡ get_or items i (pos 0) = search rules in
    let at : slice_get items i ≡ Some n = slice_get-get_or items i (pos 0) c.loop-number-test.true ∙ ap Some (sym same) in
    let cells = said_all c.args.column.now.cells.items in
    let next = rest_of S c.args.rest.now in
    let live = c.args.live.now in
    let fs = pats_of (map pattern_view c.in-Some.forms.items) in
    let found : led (of_number n) (next (narrowed (head.Number n) live cells)) ≡ Some fs =
    ap (λ p. led p (next (narrowed (head.Number n) live cells))) (sym (number_view n)) ∙ sym c.in_ok-forms.ensures ∙ ap (forms_held {Z = Global}) c.in-Some.is in
    sym (number_here items i n cells next live at fs found) ∙ c.loop-number.invariant

pub under_case-returns : goal.under_case-returns
under_case-returns t c =
    let S = shape_in_table c.args.self.now.table.now in
    let payloads = c.args.info.now.payloads in
    let rest = c.args.rest.now in
    let todo = c.as_slice.result.now in
    let left = c.as_slice-2.result.now in
    let held : columns_held S todo ≡ payload_columns (shapes_of S payloads) c.args.case 0 (said_all c.args.column.now.cells.items) ++ columns_held S rest =
    ap (columns_held S) c.as_slice.ensures.value ∙ c.in_ok-todo.ensures.held S
    ∙ ap (λ xs. xs ++ columns_held S rest) (c.in_ok-columns.ensures.held ∙ ap (λ tys. payload_columns (shapes_of S tys) c.args.case 0 (said_all c.as_slice-cells.result.now)) c.as_slice-payloads.ensures
    ∙ ap (λ xs. payload_columns (shapes_of S payloads) c.args.case 0 (said_all xs)) c.as_slice-cells.ensures.value) in
    let is : left ≡ narrowed (head.Case c.args.case) c.args.live.now (said_all c.args.column.now.cells.items) =
    c.as_slice-2.ensures.value ∙ c.in_ok-left.ensures ∙ ap (λ xs. narrowed (head.Case c.args.case) c.args.live.now (said_all xs)) c.as_slice-cells.ensures.value in
    case_gap S c.args.case c.args.info.now c.args.column.now rest c.args.live.now left todo None is held (sym (ap (forms_held {Z = Global}) c.in-None.is) ∙ c.in_ok-forms.ensures)

pub under_case-returns-in-Some : goal.under_case-returns-in-Some
under_case-returns-in-Some t c =
    let S = shape_in_table c.args.self.now.table.now in
    let payloads = c.args.info.now.payloads in
    let rest = c.args.rest.now in
    let todo = c.as_slice.result.now in
    let left = c.as_slice-2.result.now in
    let fs = pats_of (map pattern_view c.in-Some.forms.items) in
    let held : columns_held S todo ≡ payload_columns (shapes_of S payloads) c.args.case 0 (said_all c.args.column.now.cells.items) ++ columns_held S rest =
    ap (columns_held S) c.as_slice.ensures.value ∙ c.in_ok-todo.ensures.held S
    ∙ ap (λ xs. xs ++ columns_held S rest) (c.in_ok-columns.ensures.held ∙ ap (λ tys. payload_columns (shapes_of S tys) c.args.case 0 (said_all c.as_slice-cells.result.now)) c.as_slice-payloads.ensures
    ∙ ap (λ xs. payload_columns (shapes_of S payloads) c.args.case 0 (said_all xs)) c.as_slice-cells.ensures.value) in
    let is : left ≡ narrowed (head.Case c.args.case) c.args.live.now (said_all c.args.column.now.cells.items) =
    c.as_slice-2.ensures.value ∙ c.in_ok-left.ensures ∙ ap (λ xs. narrowed (head.Case c.args.case) c.args.live.now (said_all xs)) c.as_slice-cells.ensures.value in
    let many : length c.as_slice-payloads.result.now ≡ count (shapes_of S payloads) = ap length c.as_slice-payloads.ensures ∙ sym (count_types S payloads) in
    on_ok _ (λ gap. forms_held gap ≡ gap_in_case S c.args.case c.args.info.now c.args.column.now rest c.args.live.now)
    (λ gap h. h ∙ ap (λ n. gathered c.args.case n (Some fs)) many
    ∙ case_gap S c.args.case c.args.info.now c.args.column.now rest c.args.live.now left todo (Some fs) is held (sym (ap (forms_held {Z = Global}) c.in-Some.is) ∙ c.in_ok-forms.ensures))
    c.gather.result c.gather.ensures

pub under_case-first_gap-requires : goal.under_case-first_gap-requires
under_case-first_gap-requires t c =
    let table = c.args.self.now.table.now in
    let S = shape_in_table table in
    let payloads = c.args.info.now.payloads in
    let rest = c.args.rest.now in
    let todo = c.as_slice.result.now in
    let held : columns_held S todo ≡ payload_columns (shapes_of S payloads) c.args.case 0 (said_all c.args.column.now.cells.items) ++ columns_held S rest =
    ap (columns_held S) c.as_slice.ensures.value ∙ c.in_ok-todo.ensures.held S
    ∙ ap (λ xs. xs ++ columns_held S rest) (c.in_ok-columns.ensures.held ∙ ap (λ tys. payload_columns (shapes_of S tys) c.args.case 0 (said_all c.as_slice-cells.result.now)) c.as_slice-payloads.ensures
    ∙ ap (λ xs. payload_columns (shapes_of S payloads) c.args.case 0 (said_all xs)) c.as_slice-cells.ensures.value) in
    let w : columns_weight (columns_held S todo) ≡ weights (shapes_of S payloads) + columns_weight (columns_held S rest) =
    todo_weight S payloads c.args.case (said_all c.args.column.now.cells.items) rest todo held in
    let less : weights (shapes_of S payloads) < weight (S c.args.column.now.ty) = case_weight table c.args.column.now.ty c.args.case c.args.info.now c.requires.typed c.requires.case_is in
    let types : map (λ c. c.ty) todo ≡ payloads ++ map (λ c. c.ty) rest =
    ap (map (λ (c : Held). c.ty)) c.as_slice.ensures.value ∙ c.in_ok-todo.ensures.types ∙ ap (λ tys. tys ++ map (λ (c : Held). c.ty) rest) (c.in_ok-columns.ensures.types ∙ c.as_slice-payloads.ensures) in
    (omega (arith, c.decreases, w, less), todo_typed table payloads rest todo types (case_types_in table c.args.column.now.ty c.args.case c.args.info.now c.requires.typed c.requires.case_is) c.requires.rest_typed)

pub under_case-gather-requires : goal.under_case-gather-requires
under_case-gather-requires t c =
    let S = shape_in_table c.args.self.now.table.now in
    let payloads = c.args.info.now.payloads in
    let rest = c.args.rest.now in
    let todo = c.as_slice.result.now in
    let left = c.as_slice-2.result.now in
    let held : columns_held S todo ≡ payload_columns (shapes_of S payloads) c.args.case 0 (said_all c.args.column.now.cells.items) ++ columns_held S rest =
    ap (columns_held S) c.as_slice.ensures.value ∙ c.in_ok-todo.ensures.held S
    ∙ ap (λ xs. xs ++ columns_held S rest) (c.in_ok-columns.ensures.held ∙ ap (λ tys. payload_columns (shapes_of S tys) c.args.case 0 (said_all c.as_slice-cells.result.now)) c.as_slice-payloads.ensures
    ∙ ap (λ xs. payload_columns (shapes_of S payloads) c.args.case 0 (said_all xs)) c.as_slice-cells.ensures.value) in
    let enough : length payloads ≤ length c.in-Some.forms.items =
    enough_forms S payloads c.args.case (said_all c.args.column.now.cells.items) rest todo left c.in-Some.forms.items held (sym (ap (forms_held {Z = Global}) c.in-Some.is) ∙ c.in_ok-forms.ensures) in
    let many : length c.as_slice-payloads.result.now ≡ length payloads = ap length c.as_slice-payloads.ensures in
    omega (arith, enough, many, c.in-Some.forms.ok.0)

pub first_gap-returns-in-Some : goal.first_gap-returns-in-Some
first_gap-returns-in-Some t c =
    silent_covers (columns_held (shape_in_table c.args.self.now.table.now) c.args.todo.now) c.args.live.now (sym c.one_is_silent.ensures ∙ c.if-one_is_silent.true)

pub gap_in_cases-returns-then-not-is_mentioned : goal.gap_in_cases-returns-then-not-is_mentioned
gap_in_cases-returns-then-not-is_mentioned t c =
    let table = c.args.self.now.table.now in
    let S = shape_in_table table in
    let items = c.cases-info-items.result.now in
    let cells = said_all c.args.column.now.cells.items in
    let live = c.args.live.now in
    let next = rest_of S c.args.rest.now in
    let info = c.info-item.result in
    let i = c.loop-at.at in
    let at : slice_get items i ≡ Some info = got items i info c.loop-at-test.true c.info-item.is in
    let full : all_have_values (shapes_of S info.payloads) ≡ true =
    ap (λ tys. all_have_values (shapes_of S tys)) (sym c.as_slice.ensures) ∙ sym c.all_have_values.ensures ∙ c.if-all_have_values.true in
    let silent : is_mentioned (head.Case i) live cells ≡ false =
    ap (λ xs. is_mentioned (head.Case i) live (said_all xs)) (sym c.as_slice-then-all_have_values.ensures.value) ∙ sym c.is_mentioned.ensures ∙ c.if-not-is_mentioned.true in
    let missing = before_missing (case_with i (first_forms (shapes_of S info.payloads) i 0 cells)) (next (narrowed head.Other live cells)) (gap_from S c.args.column.now c.args.rest.now live)
    (λ others e. silent_case S items i info cells next live at i others refl silent full e ∙ c.loop-at.invariant)
    (λ e. others_cover (column_held S c.args.column.now) (columns_held S c.args.rest.now) live e) in
    on_ok _ (λ gap. forms_held gap ≡ gap_from S c.args.column.now c.args.rest.now live) (λ gap h. h ∙ missing) c.gap_in_others.result c.gap_in_others.ensures

pub gap_in_numbers-returns-then-not-is_mentioned : goal.gap_in_numbers-returns-then-not-is_mentioned
gap_in_numbers-returns-then-not-is_mentioned t c =
    let S = shape_in_table c.args.self.now.table.now in
    let items = c.as_slice-number-items.result.now in
    let i = c.loop-number.number-index in
    let n = to_z w64 (of_z w64 (get_or items i (pos 0))) in
    let cells = said_all c.args.column.now.cells.items in
    let next = rest_of S c.args.rest.now in
    let live = c.args.live.now in
    let silent : is_mentioned (head.Number n) live cells ≡ false =
    ap (λ xs. is_mentioned (head.Number n) live (said_all xs)) (sym c.as_slice-in-loop-number.ensures.value) ∙ sym c.is_mentioned.ensures ∙ c.if-not-is_mentioned.true in
    let none : led (of_number n) (next (narrowed (head.Number n) live cells)) ≡ None =
    ap (λ p. led p (next (narrowed (head.Number n) live cells))) (sym (number_view n)) ∙ sym c.in_ok-forms.ensures ∙ ap (forms_held {Z = Global}) c.in_default.is in
    sym (others_cover (record { shape = shape.number; cells = cells }) (columns_held S c.args.rest.now) live (others_none (head.Number n) (of_number n) cells next live silent none))

pub gap_in_numbers-returns : goal.gap_in_numbers-returns
gap_in_numbers-returns t c =
    let S = shape_in_table c.args.self.now.table.now in
    let items = c.as_slice-number-items.result.now in
    let cells = said_all c.args.column.now.cells.items in
    let next = rest_of S c.args.rest.now in
    let live = c.args.live.now in
    on_ok _ (λ gap. forms_held gap ≡ gap_in_numbers (rising cells) cells next live)
    (λ gap h. h ∙ ap (λ p. led p (next (narrowed head.Other live cells))) any_view
    ∙ ap (λ xs. gap_in_numbers xs cells next live) (sym (drop_past items c.loop-number.number-index c.loop-number-test.false)) ∙ c.loop-number.invariant)
    c.under-2.result c.under-2.ensures

pub gap_in_truths-returns-then-not-is_mentioned : goal.gap_in_truths-returns-then-not-is_mentioned
gap_in_truths-returns-then-not-is_mentioned t c =
    let S = shape_in_table c.args.self.now.table.now in
    let cells = said_all c.args.column.now.cells.items in
    let next = rest_of S c.args.rest.now in
    let live = c.args.live.now in
    let silent : is_mentioned (head.Truth false) live cells ≡ false =
    ap (λ xs. is_mentioned (head.Truth false) live (said_all xs)) (sym c.as_slice.ensures.value) ∙ sym c.is_mentioned.ensures ∙ c.if-not-is_mentioned.true in
    let none : led (of_truth false) (next (narrowed (head.Truth false) live cells)) ≡ None =
    ap (λ p. led p (next (narrowed (head.Truth false) live cells))) (sym (truth_view false)) ∙ sym c.in_ok-forms.ensures ∙ ap (forms_held {Z = Global}) c.in_default.is in
    sym (others_cover (record { shape = shape.truth; cells = cells }) (columns_held S c.args.rest.now) live (others_none (head.Truth false) (of_truth false) cells next live silent none))
