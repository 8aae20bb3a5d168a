-- The search of the code, from column to column.
use Rattle.std.proofs.Common.{◌≡◌, ℕ, ◌+◌, ◌≤◌, ℤ, Bool, true, false, List, [], ◌∷◌, ◌++◌, length, map, drop, slice_get, Option, Some, None, refl, sym, ap, ◌∙◌, subst, arith, add-one}
use Rattle.own_tree.specs.declared.pattern.TPattern.{TPattern}
use Rattle.own_tree.specs.declared.place.Ty.{Ty}
use Rattle.own_tree.specs.TypedSource.{TPat, of_number, TPats}
use Rattle.own_tree.specs.TypedView.{pats_of, pattern_view}
use Rattle.own_shapes.specs.declared.info.CaseInfo.{CaseInfo}
use Rattle.own_table.specs.declared.table.TypeTable.{TypeTable}
use Rattle.own_shapes.specs.Types.{Shape, Shapes, shapes_of, payloads_of, case_types}
use Rattle.own_match.specs.declared.column.Column.{Column as Held}
use Rattle.own_match.specs.declared.head.Head.TheVariants as head
use Rattle.own_table.specs.HasValue.{all_have_values}
use Rattle.own_match.specs.Search.{narrowed, is_mentioned, or_else, led, gathered, count, Later, gap_in_numbers, gap_in_cases, gap_in_payloads, gap_columns, payload_columns}
use Rattle.own_match.specs.First.{case_with, form_before, first_forms}
use Rattle.own_match.specs.View.{said_all, columns_held, gap_in_case, AreTyped, AreTypes}
use Rattle.own_match.specs.Weights.{weights, columns_weight}
use Rattle.own_match.proofs.Enums.{drop_at}
use Rattle.own_match.proofs.Steps.{payload_gap, case_before_others, pat_count, col_count, found_count, payload_count, payloads_weight}

-- ---- cases

module _ (shape_of : Ty → Shape) (cs : List CaseInfo) (i : ℕ) (c : CaseInfo) (cells : List TPat) (next : Later) (live : List Bool) (at : slice_get cs i ≡ Some c) where
  abbrev its : Shapes
  its = shapes_of shape_of c.payloads

  abbrev its_gap : ℕ → Option TPats
  its_gap k = gathered k (count its) (gap_in_payloads its k 0 cells next (narrowed (head.Case k) live cells))

  here_or_later : gap_in_cases (payloads_of shape_of (case_types (drop i cs))) i cells next live
      ≡ or_else (its_gap i) (gap_in_cases (payloads_of shape_of (case_types (drop (i + 1) cs))) (i + 1) cells next live)
  here_or_later =
      ap (λ xs. gap_in_cases (payloads_of shape_of (case_types xs)) i cells next live) (drop_at cs i c at)
      ∙ ap (λ k. or_else (its_gap i) (gap_in_cases (payloads_of shape_of (case_types (drop (i + 1) cs))) k cells next live)) (sym (add-one i))

  pub no_case_here : its_gap i ≡ None → gap_in_cases (payloads_of shape_of (case_types (drop i cs))) i cells next live
      ≡ gap_in_cases (payloads_of shape_of (case_types (drop (i + 1) cs))) (i + 1) cells next live
  no_case_here none = here_or_later ∙ ap (λ r. or_else r (gap_in_cases (payloads_of shape_of (case_types (drop (i + 1) cs))) (i + 1) cells next live)) none

  pub case_here : (fs : TPats) → its_gap i ≡ Some fs → gap_in_cases (payloads_of shape_of (case_types (drop i cs))) i cells next live ≡ Some fs
  case_here fs found = here_or_later ∙ ap (λ r. or_else r (gap_in_cases (payloads_of shape_of (case_types (drop (i + 1) cs))) (i + 1) cells next live)) found

  pub silent_case : (k : ℕ) (others : TPats) → k ≡ i → is_mentioned (head.Case k) live cells ≡ false → all_have_values its ≡ true → Some others ≡ next (narrowed head.Other live cells)
      → form_before (case_with k (first_forms its k 0 cells)) (Some others) ≡ gap_in_cases (payloads_of shape_of (case_types (drop i cs))) i cells next live
  silent_case k others same silent full e =
      ap (λ k. form_before (case_with k (first_forms its k 0 cells)) (Some others)) same
      ∙ sym (case_before_others i its cells next live others (gap_in_cases (payloads_of shape_of (case_types (drop (i + 1) cs))) (i + 1) cells next live)
      (subst (λ k. is_mentioned (head.Case k) live cells ≡ false) same silent) full e)
      ∙ sym here_or_later

-- ---- numbers

module _ (ns : List ℤ) (i : ℕ) (n : ℤ) (cells : List TPat) (next : Later) (live : List Bool) (at : slice_get ns i ≡ Some n) where
  number_or_later : gap_in_numbers (drop i ns) cells next live ≡ or_else (led (of_number n) (next (narrowed (head.Number n) live cells))) (gap_in_numbers (drop (i + 1) ns) cells next live)
  number_or_later = ap (λ xs. gap_in_numbers xs cells next live) (drop_at ns i n at)

  pub number_here : (fs : TPats) → led (of_number n) (next (narrowed (head.Number n) live cells)) ≡ Some fs → gap_in_numbers (drop i ns) cells next live ≡ Some fs
  number_here fs found = number_or_later ∙ ap (λ r. or_else r (gap_in_numbers (drop (i + 1) ns) cells next live)) found

  pub no_number_here : led (of_number n) (next (narrowed (head.Number n) live cells)) ≡ None → gap_in_numbers (drop i ns) cells next live ≡ gap_in_numbers (drop (i + 1) ns) cells next live
  no_number_here none = number_or_later ∙ ap (λ r. or_else r (gap_in_numbers (drop (i + 1) ns) cells next live)) none

-- ---- the payloads of a case

pub case_gap : (shape_of : Ty → Shape) (k : ℕ) (info : CaseInfo) (c : Held) (rest : List Held) (live left : List Bool) (todo : List Held) (r : Option TPats)
    → left ≡ narrowed (head.Case k) live (said_all c.cells.items)
    → columns_held shape_of todo ≡ payload_columns (shapes_of shape_of info.payloads) k 0 (said_all c.cells.items) ++ columns_held shape_of rest
    → r ≡ gap_columns (columns_held shape_of todo) left
    → gathered k (count (shapes_of shape_of info.payloads)) r ≡ gap_in_case shape_of k info c rest live
case_gap shape_of k info c rest live left todo r is held e =
    ap (gathered k (count (shapes_of shape_of info.payloads)))
    (e ∙ ap (λ cs. gap_columns cs left) held ∙ ap (gap_columns (payload_columns (shapes_of shape_of info.payloads) k 0 (said_all c.cells.items) ++ columns_held shape_of rest)) is
    ∙ sym (payload_gap (shapes_of shape_of info.payloads) k 0 (said_all c.cells.items) (columns_held shape_of rest) (narrowed (head.Case k) live (said_all c.cells.items))))

pub count_types : (shape_of : Ty → Shape) (tys : List Ty) → count (shapes_of shape_of tys) ≡ length tys
count_types shape_of [] = refl
count_types shape_of (ty ∷ tys) = omega (arith, count_types shape_of tys)

pub pats_length : (fs : List TPattern) → pat_count (pats_of (map pattern_view fs)) ≡ length fs
pats_length [] = refl
pats_length (f ∷ fs) = omega (arith, pats_length fs)

pub enough_forms : (shape_of : Ty → Shape) (tys : List Ty) (k : ℕ) (cells : List TPat) (rest todo : List Held) (left : List Bool) (fs : List TPattern)
    → columns_held shape_of todo ≡ payload_columns (shapes_of shape_of tys) k 0 cells ++ columns_held shape_of rest
    → Some (pats_of (map pattern_view fs)) ≡ gap_columns (columns_held shape_of todo) left → length tys ≤ length fs
enough_forms shape_of tys k cells rest todo left fs held e =
    let n : pat_count (pats_of (map pattern_view fs)) ≡ col_count (columns_held shape_of todo) = found_count (columns_held shape_of todo) left (pats_of (map pattern_view fs)) (sym e) in
    let m : count (shapes_of shape_of tys) ≤ col_count (columns_held shape_of todo) = subst (λ cs. count (shapes_of shape_of tys) ≤ col_count cs) (sym held) (payload_count (shapes_of shape_of tys) k 0 cells (columns_held shape_of rest)) in
    omega (arith, n, m, pats_length fs, count_types shape_of tys)

pub todo_weight : (shape_of : Ty → Shape) (tys : List Ty) (k : ℕ) (cells : List TPat) (rest todo : List Held)
    → columns_held shape_of todo ≡ payload_columns (shapes_of shape_of tys) k 0 cells ++ columns_held shape_of rest
    → columns_weight (columns_held shape_of todo) ≡ weights (shapes_of shape_of tys) + columns_weight (columns_held shape_of rest)
todo_weight shape_of tys k cells rest todo held = ap columns_weight held ∙ payloads_weight (shapes_of shape_of tys) k 0 cells (columns_held shape_of rest)

types_joined : (table : TypeTable) (tys us : List Ty) → AreTypes table tys → AreTypes table us → AreTypes table (tys ++ us)
types_joined table [] us a b = b
types_joined table (ty ∷ tys) us a b = (a.0, types_joined table tys us a.1 b)

typed_types : (table : TypeTable) (cs : List Held) → AreTyped table cs → AreTypes table (map (λ c. c.ty) cs)
typed_types table [] t = t
typed_types table (c ∷ cs) t = (t.0, typed_types table cs t.1)

types_typed : (table : TypeTable) (cs : List Held) → AreTypes table (map (λ c. c.ty) cs) → AreTyped table cs
types_typed table [] t = t
types_typed table (c ∷ cs) t = (t.0, types_typed table cs t.1)

pub todo_typed : (table : TypeTable) (tys : List Ty) (rest todo : List Held) → map (λ c. c.ty) todo ≡ tys ++ map (λ c. c.ty) rest → AreTypes table tys → AreTyped table rest → AreTyped table todo
todo_typed table tys rest todo e t r =
    types_typed table todo (subst (λ us. AreTypes table us) (sym e) (types_joined table tys (map (λ c. c.ty) rest) t (typed_types table rest r)))
