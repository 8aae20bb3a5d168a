-- The stored properties of a type, by its shape.
use Rattle.std.proofs.Common.{◌≡◌, ℕ, zero, suc, ◌+◌, ◌<◌, inl, inr, Bool, true, false, not, ◌||◌, Option, Some, None, List, [], ◌∷◌, map, drop, length, get_or, slice_get, refl, sym, ap, ◌∙◌}
use Rattle.std.specs.Prelude.{slice_index_or}
use Rattle.std.proofs.lemmas.Bool.{cases_lt}
use Rattle.std.proofs.lemmas.List.{drop_more}
use Rattle.std.proofs.lemmas.Option.{slice_get_past}
use Rattle.own_tree.specs.declared.place.Ty.{Ty}
use Rattle.own_tree.specs.declared.place.Ty.TheVariants as type
use Rattle.own_shapes.specs.declared.info.FieldInfo.{FieldInfo}
use Rattle.own_shapes.specs.Types.{Shape, no_value, shapes_of, shape_at, passes_let, field_types, declared_fields}
use Rattle.own_table.specs.declared.table.TypeTable.{TypeTable}
use Rattle.own_table.specs.Table.{types_in, shape_in_table}
use Rattle.own_table.proofs.Whole.{tables_are_whole}
use Rattle.own_uses.proofs.TypeLaws.{undeclared}

none_passes : (ks : List ℕ) → passes_let no_value ks ≡ false
none_passes [] = refl
none_passes (k ∷ ks) = none_passes ks

module _ (shape_of : Ty → Shape) where
  -- by the property that comes first on the way
  abbrev pub by_property : List ℕ → Option FieldInfo → Bool
  by_property ks None = false
  by_property ks (Some f) = not f.changes || passes_let (shape_of f.ty) ks

  in_struct : (fs : List FieldInfo) (k : ℕ) (ks : List ℕ)
      → (not (slice_index_or (map (λ (f : FieldInfo). f.changes) fs) k true) || passes_let (shape_at (shapes_of shape_of (field_types fs)) k) ks) ≡ by_property ks (slice_get fs k)
  in_struct [] k ks = none_passes ks
  in_struct (f ∷ fs) zero ks = refl
  in_struct (f ∷ fs) (suc k) ks = in_struct fs k ks

module _ (table : TypeTable) where
  abbrev properties : Ty → List FieldInfo
  properties ty = (types_in table).properties ty

  abbrev by : List ℕ → Option FieldInfo → Bool
  by ks f = by_property (shape_in_table table) ks f

  bare : (ty : Ty) (k : ℕ) (ks : List ℕ) (s : Shape) → shape_in_table table ty ≡ s → passes_let s (k ∷ ks) ≡ false → properties ty ≡ []
      → passes_let (shape_in_table table ty) (k ∷ ks) ≡ by ks (slice_get (properties ty) k)
  bare ty k ks s shape none empty = ap (λ x. passes_let x (k ∷ ks)) shape ∙ none ∙ sym (ap (λ fs. by ks (slice_get fs k)) empty)

  declared : (n : ℕ) → n < (types_in table).count → (is_enum : Bool) → (types_in table).is_enum (type.Named n) ≡ is_enum → (k : ℕ) (ks : List ℕ)
      → passes_let (shape_in_table table (type.Named n)) (k ∷ ks) ≡ by ks (slice_get (properties (type.Named n)) k)
  declared n within true is k ks =
      let s = (tables_are_whole table).enum_shape n within is in
      ap (λ x. passes_let x (k ∷ ks)) s.1 ∙ none_passes ks ∙ sym (ap (λ fs. by ks (slice_get fs k)) ((tables_are_whole table).enum_properties n within is))
  declared n within false is k ks =
      let s = (tables_are_whole table).struct_shape n within is in
      let fs = properties (type.Named n) in
      ap (λ x. passes_let x (k ∷ ks)) s.1
      ∙ ap (λ changes. not (slice_index_or changes k true) || passes_let (shape_at (shapes_of (shape_in_table table) (field_types fs)) k) ks) s.2.changes
      ∙ in_struct (shape_in_table table) fs k ks

  pub passes_first : (ty : Ty) (k : ℕ) (ks : List ℕ) → passes_let (shape_in_table table ty) (k ∷ ks) ≡ by_property (shape_in_table table) ks (slice_get (properties ty) k)
  passes_first type.Int k ks = none_passes ks
  passes_first type.Bool k ks = none_passes ks
  passes_first type.Unit k ks = none_passes ks
  passes_first (type.Fun n) k ks = none_passes ks
  passes_first (type.Named n) k ks = elim (cases_lt n (types_in table).count) [
    | inl within ↦ declared n within ((types_in table).is_enum (type.Named n)) refl k ks
    | inr past ↦ bare (type.Named n) k ks no_value (undeclared table n past) (none_passes ks) (ap (λ t. declared_fields t) (slice_get_past table.types n past))
  ]

  -- one property further on the way
  pub on_way : (fields : List ℕ) (i : ℕ) (ty : Ty) (found : Option FieldInfo) (all : Bool) → i < length fields → found ≡ slice_get (properties ty) (get_or fields i 0)
      → passes_let (shape_in_table table ty) (drop i fields) ≡ all → by_property (shape_in_table table) (drop (i + 1) fields) found ≡ all
  on_way fields i ty found all within at so_far =
      ap (by (drop (i + 1) fields)) at ∙ sym (passes_first ty (get_or fields i 0) (drop (i + 1) fields))
      ∙ sym (ap (passes_let (shape_in_table table ty)) (drop_more fields i 0 within)) ∙ so_far

  pub on_var : (ks : List ℕ) (f : FieldInfo) (found : Option FieldInfo) (all : Bool) → found ≡ Some f → f.changes ≡ true → by_property (shape_in_table table) ks found ≡ all
      → passes_let (shape_in_table table f.ty) ks ≡ all
  on_var ks f found all is var so_far =
      sym (ap (by ks) is ∙ ap (λ b. not b || passes_let (shape_in_table table f.ty) ks) var) ∙ so_far

  pub on_let : (ks : List ℕ) (f : FieldInfo) (found : Option FieldInfo) (all : Bool) → found ≡ Some f → f.changes ≡ false → by_property (shape_in_table table) ks found ≡ all
      → true ≡ all
  on_let ks f found all is var so_far = sym (ap (by ks) is ∙ ap (λ b. not b || passes_let (shape_in_table table f.ty) ks) var) ∙ so_far

  pub on_none : (ks : List ℕ) (found : Option FieldInfo) (all : Bool) → found ≡ None → by_property (shape_in_table table) ks found ≡ all → false ≡ all
  on_none ks found all is so_far = sym (ap (by ks) is) ∙ so_far
