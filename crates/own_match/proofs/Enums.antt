-- The shape of a type of the table, as the code reads it from the table.
use Rattle.std.proofs.Common.{◌≡◌, ℕ, zero, suc, ◌+◌, ◌<◌, ◌≤◌, max, Bool, true, false, List, [], ◌∷◌, ◌++◌, length, map, drop, slice_get, Option, Some, None, refl, sym, ap, ◌∙◌, subst, arith, get_or, option_map, add-one}
use Rattle.std.proofs.lemmas.Option.{same_Some, none-some, slice_get-get_or, slice_get-map}
use Rattle.own_tree.specs.declared.limits.TheConstants.{MOST_FIELDS}
use Rattle.own_tree.specs.declared.pattern.TPattern.{TPattern}
use Rattle.own_tree.specs.declared.place.Ty.{Ty}
use Rattle.own_tree.specs.declared.place.Ty.TheVariants as type
use Rattle.own_tree.specs.TypedSource.{TPat, TPats, no_pats}
use Rattle.own_tree.specs.TypedView.{pats_of, pattern_view}
use Rattle.own_shapes.specs.declared.info.CaseInfo.{CaseInfo}
use Rattle.own_table.specs.declared.table.TypeTable.{TypeTable}
use Rattle.own_shapes.specs.Types.{TypeHead, Shape, Shapes, no_shapes, Payloads, no_payloads, payloads, shapes_of, payloads_of, field_types, case_types, IsType}
use Rattle.own_shapes.specs.Types as shape
use Rattle.own_table.specs.Table.{types_in, shape_in_table, IsTypeIn, AreWhole}
use Rattle.own_table.proofs.Whole.{tables_are_whole}
use Rattle.own_table.specs.HasValue.{has_value}
use Rattle.own_match.specs.Search.{no_others, is_only_case, payloads_at, case_payloads, Later, payload_columns, gap, gap_in_cases, gap_where}
use Rattle.own_match.specs.First.{any_where, form_before, or_form, case_with, first_form, first_case, first_forms, first_of_columns}
use Rattle.own_match.specs.View.{AreTypes, IsCase, forms_and, said_all, columns_held}
use Rattle.own_match.specs.declared.column.Column.{Column as Held}
use Rattle.own_match.specs.Weights.{weight, weights, most_weight}
use Rattle.own_match.proofs.Parts.{CaseParts, each_case, part_types}
use Rattle.own_match.proofs.Narrow.{false_true}

module _ (table : TypeTable) where
  abbrev whole : AreWhole (types_in table)
  whole = tables_are_whole table

  abbrev shape_of : Ty → Shape
  shape_of = shape_in_table table

  abbrev cases_of : Ty → List CaseInfo
  cases_of ty = (types_in table).cases ty

  -- ---- enums and structs

  abbrev Enum : Ty → Type 0
  Enum ty = (h : TypeHead) × (shape_of ty ≡ shape.enum h (payloads_of shape_of (case_types (cases_of ty))))

  pub enum_is : (ty : Ty) → IsTypeIn table ty → (types_in table).is_enum ty ≡ true → Enum ty
  enum_is type.Int t e = false_true e
  enum_is type.Bool t e = false_true e
  enum_is type.Unit t e = false_true e
  enum_is (type.Fun k) t e = false_true e
  enum_is (type.Named k) t e = let s = whole.enum_shape k t e in (s.0, s.1)

  abbrev Struct : Ty → Type 0
  Struct ty = (h : TypeHead) × (fields : Shapes) × (shape_of ty ≡ shape.struct h fields)

  pub struct_is : (k : ℕ) → IsTypeIn table (type.Named k) → (types_in table).is_enum (type.Named k) ≡ false → Struct (type.Named k)
  struct_is k t e = let s = whole.struct_shape k t e in (s.0, shapes_of shape_of (field_types ((types_in table).properties (type.Named k))), s.1)

  pub first_struct : (k : ℕ) (cells : List TPat) → IsTypeIn table (type.Named k) → (types_in table).is_enum (type.Named k) ≡ false
      → first_form (shape_of (type.Named k)) cells ≡ any_where (has_value (shape_of (type.Named k)))
  first_struct k cells t e =
      let s = struct_is k t e in
      ap (λ x. first_form x cells) s.2 ∙ ap any_where (sym (ap has_value s.2))

  pub gap_struct : (k : ℕ) (cells : List TPat) (next : Later) (live : List Bool) → IsTypeIn table (type.Named k) → (types_in table).is_enum (type.Named k) ≡ false
      → gap (shape_of (type.Named k)) cells next live ≡ gap_where (has_value (shape_of (type.Named k))) cells next live
  gap_struct k cells next live t e =
      let s = struct_is k t e in
      ap (λ x. gap x cells next live) s.2 ∙ ap (λ b. gap_where b cells next live) (sym (ap has_value s.2))

  pub first_enum : (ty : Ty) (cells : List TPat) → IsTypeIn table ty → (types_in table).is_enum ty ≡ true
      → first_form (shape_of ty) cells ≡ first_case (payloads_of shape_of (case_types (cases_of ty))) 0 cells
  first_enum ty cells t e = ap (λ x. first_form x cells) (enum_is ty t e).1

  pub gap_enum : (ty : Ty) (cells : List TPat) (next : Later) (live : List Bool) → IsTypeIn table ty → (types_in table).is_enum ty ≡ true
      → gap (shape_of ty) cells next live ≡ gap_in_cases (payloads_of shape_of (case_types (cases_of ty))) 0 cells next live
  gap_enum ty cells next live t e = ap (λ x. gap x cells next live) (enum_is ty t e).1

  -- ---- the payloads of a case

  parts_at : (cs : List CaseInfo) (k : ℕ) (c : CaseInfo) → CaseParts (types_in table).count cs → slice_get cs k ≡ Some c → AreTypes table c.payloads
  parts_at [] k c p e = absurd (none-some _ e)
  parts_at (d ∷ cs) zero c p e = subst (λ x. AreTypes table x.payloads) (same_Some _ _ e) (part_types (types_in table).count d.payloads p.0)
  parts_at (d ∷ cs) (suc k) c p e = parts_at cs k c p.1 e

  pub case_types_in : (ty : Ty) (k : ℕ) (c : CaseInfo) → IsTypeIn table ty → IsCase table ty k c → AreTypes table c.payloads
  case_types_in type.Int k c t i = false_true i.0
  case_types_in type.Bool k c t i = false_true i.0
  case_types_in type.Unit k c t i = false_true i.0
  case_types_in (type.Fun n) k c t i = false_true i.0
  case_types_in (type.Named n) k c t i =
      parts_at (cases_of (type.Named n)) k c (each_case (types_in table).count (cases_of (type.Named n)) (whole.payload_part n t i.0)) i.1

  weight_at : (cs : List CaseInfo) (k : ℕ) (c : CaseInfo) → slice_get cs k ≡ Some c → weights (shapes_of shape_of c.payloads) ≤ most_weight (payloads_of shape_of (case_types cs))
  weight_at [] k c e = absurd (none-some _ e)
  weight_at (d ∷ cs) zero c e = subst (λ x. weights (shapes_of shape_of x.payloads) ≤ max (weights (shapes_of shape_of d.payloads)) (most_weight (payloads_of shape_of (case_types cs)))) (same_Some _ _ e) (omega arith)
  weight_at (d ∷ cs) (suc k) c e = omega (arith, weight_at cs k c e)

  pub case_weight : (ty : Ty) (k : ℕ) (c : CaseInfo) → IsTypeIn table ty → IsCase table ty k c → weights (shapes_of shape_of c.payloads) < weight (shape_of ty)
  case_weight ty k c t i =
      subst (λ s. weights (shapes_of shape_of c.payloads) < weight s) (sym (enum_is ty t i.0).1) (omega (arith, weight_at (cases_of ty) k c i.1))

  -- the type of one payload
  pub type_in : (tys : List Ty) (i : ℕ) (ty : Ty) → AreTypes table tys → slice_get tys i ≡ Some ty → IsTypeIn table ty
  type_in [] i ty t e = absurd (none-some _ e)
  type_in (u ∷ tys) zero ty t e = subst (λ x. IsTypeIn table x) (same_Some _ _ e) t.0
  type_in (u ∷ tys) (suc i) ty t e = type_in tys i ty t.1 e

  pub part_weight : (tys : List Ty) (i : ℕ) (ty : Ty) → slice_get tys i ≡ Some ty → weight (shape_of ty) ≤ weights (shapes_of shape_of tys)
  part_weight [] i ty e = absurd (none-some _ e)
  part_weight (u ∷ tys) zero ty e = subst (λ x. weight (shape_of x) ≤ weight (shape_of u) + weights (shapes_of shape_of tys)) (same_Some _ _ e) (omega arith)
  part_weight (u ∷ tys) (suc i) ty e = omega (arith, part_weight tys i ty e)

  -- ---- all values of a type

  -- what is no enum has no case
  pub no_case_of : (ty : Ty) (c : ℕ) → IsTypeIn table ty → (types_in table).is_enum ty ≡ false → is_only_case (shape_of ty) c ≡ false
  no_case_of type.Int c t e = refl
  no_case_of type.Bool c t e = refl
  no_case_of type.Unit c t e = refl
  no_case_of (type.Fun k) c t e = refl
  no_case_of (type.Named k) c t e = ap (λ s. is_only_case s c) (struct_is k t e).2

  pub only_case_of : (ty : Ty) (c : ℕ) → IsTypeIn table ty → (types_in table).is_enum ty ≡ true → is_only_case (shape_of ty) c ≡ no_others c 0 (payloads_of shape_of (case_types (cases_of ty)))
  only_case_of ty c t e = ap (λ s. is_only_case s c) (enum_is ty t e).1

  pub case_payloads_of : (ty : Ty) (c : ℕ) → IsTypeIn table ty → (types_in table).is_enum ty ≡ true → case_payloads (shape_of ty) c ≡ payloads_at (payloads_of shape_of (case_types (cases_of ty))) c
  case_payloads_of ty c t e = ap (λ s. case_payloads s c) (enum_is ty t e).1

  pub payloads_got : (cs : List CaseInfo) (c : ℕ) (info : CaseInfo) → slice_get cs c ≡ Some info → payloads_at (payloads_of shape_of (case_types cs)) c ≡ shapes_of shape_of info.payloads
  payloads_got [] c info e = absurd (none-some _ e)
  payloads_got (d ∷ cs) zero info e = ap (λ x. shapes_of shape_of x.payloads) (same_Some _ _ e)
  payloads_got (d ∷ cs) (suc c) info e = payloads_got cs c info e

  pub payloads_absent : (cs : List CaseInfo) (c : ℕ) → length cs ≤ c → payloads_at (payloads_of shape_of (case_types cs)) c ≡ no_shapes
  payloads_absent [] c l = refl
  payloads_absent (d ∷ cs) zero l = absurd (omega (arith, l))
  payloads_absent (d ∷ cs) (suc c) l = payloads_absent cs c (omega (arith, l))

  -- M5
  pub few_cases_of : (ty : Ty) → IsTypeIn table ty → length (cases_of ty) ≤ MOST_FIELDS
  few_cases_of type.Int t = omega arith
  few_cases_of type.Bool t = omega arith
  few_cases_of type.Unit t = omega arith
  few_cases_of (type.Fun k) t = omega arith
  few_cases_of (type.Named k) t = whole.few_cases k t

-- ---- first forms of columns

pub first_columns : (ss : Shapes) (k i : ℕ) (cells : List TPat) → first_of_columns (payload_columns ss k i cells) ≡ first_forms ss k i cells
first_columns no_shapes k i cells = refl
first_columns (shape.shape s ss) k i cells = ap (form_before (first_form s _)) (first_columns ss k (suc i) cells)

pub forms_all : (fs : List TPattern) → forms_and fs (Some no_pats) ≡ Some (pats_of (map pattern_view fs))
forms_all [] = refl
forms_all (f ∷ fs) = ap (form_before (Some (pattern_view f))) (forms_all fs)

pub forms_none : (fs : List TPattern) → forms_and fs None ≡ None
forms_none [] = refl
forms_none (f ∷ fs) = ap (form_before (Some (pattern_view f))) (forms_none fs)

pub forms_push : (fs : List TPattern) (f : TPattern) (later : Option TPats) → forms_and (fs ++ f ∷ []) later ≡ forms_and fs (form_before (Some (pattern_view f)) later)
forms_push [] f later = refl
forms_push (g ∷ fs) f later = ap (form_before (Some (pattern_view g))) (forms_push fs f later)

-- ---- one element after the other

pub drop_at : {A : Type 0} (xs : List A) (i : ℕ) (x : A) → slice_get xs i ≡ Some x → drop i xs ≡ x ∷ drop (i + 1) xs
drop_at [] i x e = absurd (none-some _ e)
drop_at (y ∷ xs) zero x e = ap (λ z. z ∷ xs) (same_Some _ _ e)
drop_at (y ∷ xs) (suc i) x e = drop_at xs i x e ∙ ap (λ k. x ∷ drop k (y ∷ xs)) (shifted i)
  where
    shifted : (i : ℕ) → suc (i + 1) ≡ suc i + 1
    shifted i = omega arith

pub drop_past : {A : Type 0} (xs : List A) (i : ℕ) → length xs ≤ i → drop i xs ≡ []
drop_past [] zero l = refl
drop_past [] (suc i) l = refl
drop_past (x ∷ xs) zero l = absurd (omega (arith, l))
drop_past (x ∷ xs) (suc i) l = drop_past xs i (omega (arith, l))

pub got : {A : Type 0} (xs : List A) (i : ℕ) (x : A) → i < length xs → x ≡ get_or xs i x → slice_get xs i ≡ Some x
got xs i x l e = slice_get-get_or xs i x l ∙ ap Some (sym e)

module _ (shape_of : Ty → Shape) (cells : List TPat) where
  pub first_step : (cs : List CaseInfo) (i : ℕ) (c : CaseInfo) → slice_get cs i ≡ Some c → case_with i (first_forms (shapes_of shape_of c.payloads) i 0 cells) ≡ None
      → first_case (payloads_of shape_of (case_types (drop i cs))) i cells ≡ first_case (payloads_of shape_of (case_types (drop (i + 1) cs))) (i + 1) cells
  first_step cs i c at none =
      ap (λ xs. first_case (payloads_of shape_of (case_types xs)) i cells) (drop_at cs i c at)
      ∙ ap (λ f. or_form f (first_case (payloads_of shape_of (case_types (drop (i + 1) cs))) (suc i) cells)) none
      ∙ ap (λ k. first_case (payloads_of shape_of (case_types (drop (i + 1) cs))) k cells) (sym (add-one i))

  pub first_here : (cs : List CaseInfo) (i : ℕ) (c : CaseInfo) (f : TPat) → slice_get cs i ≡ Some c → case_with i (first_forms (shapes_of shape_of c.payloads) i 0 cells) ≡ Some f
      → first_case (payloads_of shape_of (case_types (drop i cs))) i cells ≡ Some f
  first_here cs i c f at found =
      ap (λ xs. first_case (payloads_of shape_of (case_types xs)) i cells) (drop_at cs i c at)
      ∙ ap (λ f. or_form f (first_case (payloads_of shape_of (case_types (drop (i + 1) cs))) (suc i) cells)) found

module _ (shape_of : Ty → Shape) (items : List Held) (i : ℕ) (item : Held) (at : slice_get items i ≡ Some item) where
  abbrev its_form : Option TPat
  its_form = first_form (shape_of item.ty) (said_all item.cells.items)

  here_and_later : first_of_columns (columns_held shape_of (drop i items)) ≡ form_before its_form (first_of_columns (columns_held shape_of (drop (i + 1) items)))
  here_and_later = ap (λ xs. first_of_columns (columns_held shape_of xs)) (drop_at items i item at)

  pub none_found : (fs : List TPattern) (all : Option TPats) → its_form ≡ None → forms_and fs (first_of_columns (columns_held shape_of (drop i items))) ≡ all → all ≡ None
  none_found fs all none e =
      sym e ∙ ap (forms_and fs) (here_and_later ∙ ap (λ f. form_before f (first_of_columns (columns_held shape_of (drop (i + 1) items)))) none) ∙ forms_none fs

  pub found_more : (fs : List TPattern) (f : TPattern) → its_form ≡ Some (pattern_view f)
      → forms_and (fs ++ f ∷ []) (first_of_columns (columns_held shape_of (drop (i + 1) items))) ≡ forms_and fs (first_of_columns (columns_held shape_of (drop i items)))
  found_more fs f found =
      forms_push fs f (first_of_columns (columns_held shape_of (drop (i + 1) items)))
      ∙ ap (forms_and fs) (sym (here_and_later ∙ ap (λ f. form_before f (first_of_columns (columns_held shape_of (drop (i + 1) items)))) found))

pub column_type : (cs : List Held) (tys : List Ty) (i : ℕ) (c : Held) → map (λ c. c.ty) cs ≡ tys → slice_get cs i ≡ Some c → slice_get tys i ≡ Some c.ty
column_type cs tys i c e at = ap (λ xs. slice_get xs i) (sym e) ∙ slice_get-map (λ (c : Held). c.ty) cs i ∙ ap (option_map (λ (c : Held). c.ty)) at

-- what a case's number fits, it is
pub case_at : (table : TypeTable) (ty : Ty) (items : List CaseInfo) (i k : ℕ) (c : CaseInfo) → items ≡ (types_in table).cases ty → k ≡ i → slice_get items i ≡ Some c → slice_get ((types_in table).cases ty) k ≡ Some c
case_at table ty items i k c e same at = ap (λ xs. slice_get xs k) (sym e) ∙ ap (slice_get items) same ∙ at
