-- What the table says of types that are not declared.
use Rattle.std.proofs.Common.{◌≡◌, ℕ, ◌≤◌, false, List, [], length, None, refl, ap, arith}
use Rattle.std.proofs.lemmas.Option.{slice_get_past}
use Rattle.own_tree.specs.declared.place.Ty.{Ty}
use Rattle.own_tree.specs.declared.place.Ty.TheVariants as type
use Rattle.own_shapes.specs.declared.info.TypeInfo.{TypeInfo}
use Rattle.own_shapes.specs.Types.{IsType, types_resolved, declaration, declared_fields, declared_cases, declared_name, declares_enum, shape_of_declared, unfolded, no_value}

pub undeclared : (ts : List TypeInfo) (k : ℕ) → length ts ≤ k → (types_resolved ts).shape (type.Named k) ≡ no_value
undeclared ts k past = ap (shape_of_declared (unfolded ts (length ts)) k) (slice_get_past ts k past)

without_declaration : (ts : List TypeInfo) (ty : Ty) → (IsType (length ts) ty → ⊥) → declaration ts ty ≡ None
without_declaration ts type.Int outside = refl
without_declaration ts type.Bool outside = refl
without_declaration ts type.Unit outside = refl
without_declaration ts (type.Fun k) outside = refl
without_declaration ts (type.Named k) outside = let past : length ts ≤ k = omega arith in slice_get_past ts k past

pub without_properties : (ts : List TypeInfo) (ty : Ty) → (IsType (length ts) ty → ⊥) → (types_resolved ts).properties ty ≡ []
without_properties ts ty outside = ap declared_fields (without_declaration ts ty outside)

pub without_cases : (ts : List TypeInfo) (ty : Ty) → (IsType (length ts) ty → ⊥) → (types_resolved ts).cases ty ≡ []
without_cases ts ty outside = ap declared_cases (without_declaration ts ty outside)

pub without_name : (ts : List TypeInfo) (ty : Ty) → (IsType (length ts) ty → ⊥) → (types_resolved ts).name ty ≡ []
without_name ts ty outside = ap declared_name (without_declaration ts ty outside)

pub no_enum : (ts : List TypeInfo) (ty : Ty) → (IsType (length ts) ty → ⊥) → (types_resolved ts).is_enum ty ≡ false
no_enum ts ty outside = ap declares_enum (without_declaration ts ty outside)
