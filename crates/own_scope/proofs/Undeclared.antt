-- What the table says of types that are not declared, and how many parts a type has.
use Rattle.std.proofs.Common.{◌≡◌, ℕ, ◌≤◌, Bool, true, false, List, [], length, Option, None, refl, ap, arith}
use Rattle.std.proofs.lemmas.Option.{slice_get_past}
use Rattle.own_tree.specs.declared.limits.TheConstants.{MOST_FIELDS}
use Rattle.own_tree.specs.declared.place.Ty.{Ty}
use Rattle.own_tree.specs.declared.place.Ty.TheVariants as type
use Rattle.own_shapes.specs.declared.info.TypeInfo.{TypeInfo}
use Rattle.own_shapes.specs.Types.{IsType, types_resolved, declaration, declared_fields, declared_cases, declares_enum, is_copyable, copyable, shape_of_declared, unfolded, no_value}
use Rattle.own_table.specs.Table.{types_in, IsTypeIn}
use Rattle.own_table.specs.declared.table.TypeTable.{TypeTable}
use Rattle.own_table.proofs.Whole.{tables_are_whole}

undeclared : (ts : List TypeInfo) (ty : Ty) → (IsType (length ts) ty → ⊥) → declaration ts ty ≡ None
undeclared ts type.Int outside = refl
undeclared ts type.Bool outside = refl
undeclared ts type.Unit outside = refl
undeclared ts (type.Fun k) outside = refl
undeclared ts (type.Named k) outside = let past : length ts ≤ k = omega arith in slice_get_past ts k past

pub without_properties : (ts : List TypeInfo) (ty : Ty) → (IsType (length ts) ty → ⊥) → (types_resolved ts).properties ty ≡ []
without_properties ts ty outside = ap declared_fields (undeclared ts ty outside)

pub without_cases : (ts : List TypeInfo) (ty : Ty) → (IsType (length ts) ty → ⊥) → (types_resolved ts).cases ty ≡ []
without_cases ts ty outside = ap declared_cases (undeclared ts ty outside)

pub no_enum : (ts : List TypeInfo) (ty : Ty) → (IsType (length ts) ty → ⊥) → (types_resolved ts).is_enum ty ≡ false
no_enum ts ty outside = ap declares_enum (undeclared ts ty outside)

pub shapeless : (ts : List TypeInfo) (k : ℕ) → length ts ≤ k → (types_resolved ts).shape (type.Named k) ≡ no_value
shapeless ts k past = ap (shape_of_declared (unfolded ts (length ts)) k) (slice_get_past ts k past)

pub copied : (ts : List TypeInfo) (ty : Ty) → (IsType (length ts) ty → ⊥) → is_copyable (types_resolved ts) ty ≡ true
copied ts type.Int outside = refl
copied ts type.Bool outside = refl
copied ts type.Unit outside = refl
copied ts (type.Fun k) outside = refl
copied ts (type.Named k) outside =
    let past : length ts ≤ k = omega arith in
    ap (λ t. copyable (shape_of_declared (unfolded ts (length ts)) k t)) (slice_get_past ts k past)

-- ---- numbers of parts

module _ (table : TypeTable) where
  pub few_properties : (ty : Ty) → IsTypeIn table ty → length ((types_in table).properties ty) ≤ MOST_FIELDS
  few_properties type.Int here = omega arith
  few_properties type.Bool here = omega arith
  few_properties type.Unit here = omega arith
  few_properties (type.Fun k) here = omega arith
  few_properties (type.Named k) here = (tables_are_whole table).few_properties k here

  pub few_cases : (ty : Ty) → IsTypeIn table ty → length ((types_in table).cases ty) ≤ MOST_FIELDS
  few_cases type.Int here = omega arith
  few_cases type.Bool here = omega arith
  few_cases type.Unit here = omega arith
  few_cases (type.Fun k) here = omega arith
  few_cases (type.Named k) here = (tables_are_whole table).few_cases k here
