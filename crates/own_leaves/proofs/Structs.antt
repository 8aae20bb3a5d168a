-- The stored properties of a struct of a table.
use Rattle.std.proofs.Common.{◌≡◌, ℕ, ◌<◌, ◌≤◌, false, List, length, sym, ap, ◌∙◌, subst, ltb-true}
use Rattle.std.specs.Prelude.{Contains, IsTrue}
use Rattle.own_shapes.specs.declared.info.FieldInfo.{FieldInfo}
use Rattle.own_tree.specs.declared.limits.TheConstants.{MOST_FIELDS}
use Rattle.own_tree.specs.declared.place.Ty.{Ty}
use Rattle.own_tree.specs.declared.place.Ty.TheVariants as type
use Rattle.own_shapes.specs.Types.{opened_leaves, leaves_from, shapes_of, field_types, is_part, IsType}
use Rattle.own_table.specs.declared.table.TypeTable.{TypeTable}
use Rattle.own_table.specs.Table.{types_in, IsTypeIn}
use Rattle.own_table.proofs.Whole.{tables_are_whole}

-- a part of a type is a type of the table
part_type : (count : ℕ) (ty : Ty) → IsTrue (is_part count ty) → IsType count ty
part_type count type.Int h = tt
part_type count type.Bool h = tt
part_type count type.Unit h = tt
part_type count (type.Fun k) h = tt
part_type count (type.Named k) h = ltb-true k count h

module _ (table : TypeTable) (ty : Ty) (k : ℕ) (is : ty ≡ type.Named k) (declared : IsTypeIn table ty) (no_enum : false ≡ (types_in table).is_enum ty)
    (fs : List FieldInfo) (properties : fs ≡ (types_in table).properties ty) where
  below : k < (types_in table).count
  below = subst (λ t. IsTypeIn table t) is declared

  no_enum_is : (types_in table).is_enum (type.Named k) ≡ false
  no_enum_is = sym (no_enum ∙ ap (λ t. (types_in table).is_enum t) is)

  properties_are : fs ≡ (types_in table).properties (type.Named k)
  properties_are = properties ∙ ap (λ t. (types_in table).properties t) is

  pub few_fields : length fs ≤ MOST_FIELDS
  few_fields = subst (λ l. length l ≤ MOST_FIELDS) (sym properties_are) ((tables_are_whole table).few_properties k below)

  pub field_type : (f : FieldInfo) → Contains fs f → IsTypeIn table f.ty
  field_type f c =
      part_type (types_in table).count f.ty ((tables_are_whole table).field_part k below no_enum_is f (subst (λ l. Contains l f) properties_are c))

  pub opened_is : opened_leaves ((types_in table).shape ty) ≡ leaves_from 0 (shapes_of (types_in table).shape (field_types fs))
  opened_is =
      let s = (tables_are_whole table).struct_shape k below no_enum_is in
      ap (λ t. opened_leaves ((types_in table).shape t)) is ∙ ap opened_leaves s.1
      ∙ ap (λ l. leaves_from 0 (shapes_of (types_in table).shape (field_types l))) (sym properties_are)
