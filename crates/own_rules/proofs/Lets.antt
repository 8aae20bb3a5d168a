-- Which stored properties of a type of a table are a `let`.
use Rattle.std.proofs.Common.{◌≡◌, ℕ, zero, suc, ◌<◌, Bool, true, false, not, ◌||◌, List, [], ◌∷◌, map, slice_get, Some, None, refl, sym, ap, ◌∙◌}
use Rattle.std.specs.Prelude.{slice_index_or}
use Rattle.own_shapes.specs.declared.info.FieldInfo.{FieldInfo}
use Rattle.own_tree.specs.declared.place.Ty.{Ty}
use Rattle.own_tree.specs.declared.place.Ty.TheVariants as type
use Rattle.own_shapes.specs.Types.{passes_let}
use Rattle.own_table.specs.declared.table.TypeTable.{TypeTable}
use Rattle.own_table.specs.Table.{types_in, IsTypeIn}
use Rattle.own_table.proofs.Whole.{tables_are_whole}

or_false : (b : Bool) → (b || false) ≡ b
or_false true = refl
or_false false = refl

abbrev pub changes_of : List FieldInfo → List Bool
changes_of fs = map (λ f. f.changes) fs

module _ (table : TypeTable) where
  by_enum : (n k : ℕ) → n < (types_in table).count → (b : Bool) → (types_in table).is_enum (type.Named n) ≡ b
      → passes_let ((types_in table).shape (type.Named n)) (k ∷ []) ≡ not (slice_index_or (changes_of ((types_in table).properties (type.Named n))) k true)
  by_enum n k lt false e =
      let s = (tables_are_whole table).struct_shape n lt e in
      ap (λ x. passes_let x (k ∷ [])) s.1 ∙ or_false (not (slice_index_or s.0.changes k true)) ∙ ap (λ l. not (slice_index_or l k true)) s.2.changes
  by_enum n k lt true e =
      let s = (tables_are_whole table).enum_shape n lt e in
      ap (λ x. passes_let x (k ∷ [])) s.1 ∙ ap (λ l. not (slice_index_or (changes_of l) k true)) (sym ((tables_are_whole table).enum_properties n lt e))

  pub let_is : (ty : Ty) (k : ℕ) → IsTypeIn table ty → passes_let ((types_in table).shape ty) (k ∷ []) ≡ not (slice_index_or (changes_of ((types_in table).properties ty)) k true)
  let_is (type.Named n) k t = by_enum n k t ((types_in table).is_enum (type.Named n)) refl
  let_is type.Int k t = refl
  let_is type.Bool k t = refl
  let_is type.Unit k t = refl
  let_is (type.Fun n) k t = refl

pub changes_at : (fs : List FieldInfo) (k : ℕ) (f : FieldInfo) → slice_get fs k ≡ Some f → slice_index_or (changes_of fs) k true ≡ f.changes
changes_at [] k f e = cc
changes_at (g ∷ fs) zero f e = ap (λ (x : FieldInfo). x.changes) (some_field g f e)
  where
    some_field : (x y : FieldInfo) → Some x ≡ Some y → x ≡ y
    some_field x y e = cc
changes_at (g ∷ fs) (suc k) f e = changes_at fs k f e

pub changes_past : (fs : List FieldInfo) (k : ℕ) → slice_get fs k ≡ None → slice_index_or (changes_of fs) k true ≡ true
changes_past [] k e = refl
changes_past (g ∷ fs) zero e = cc
changes_past (g ∷ fs) (suc k) e = changes_past fs k e
