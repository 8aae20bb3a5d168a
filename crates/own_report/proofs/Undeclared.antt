-- A type that is not declared has no stored properties.
use Rattle.std.proofs.Common.{◌≡◌, ◌≤◌, List, [], length, None, refl, ap, arith}
use Rattle.std.proofs.lemmas.Option.{slice_get_past}
use Rattle.own_tree.specs.declared.place.Ty.{Ty}
use Rattle.own_tree.specs.declared.place.Ty.TheVariants as type
use Rattle.own_shapes.specs.declared.info.TypeInfo.{TypeInfo}
use Rattle.own_shapes.specs.Types.{IsType, types_resolved, declaration, declared_fields}

undeclared : (ts : List TypeInfo) (ty : Ty) → (IsType (length ts) ty → ⊥) → declaration ts ty ≡ None
undeclared ts type.Int outside = refl
undeclared ts type.Bool outside = refl
undeclared ts type.Unit outside = refl
undeclared ts (type.Fun k) outside = refl
undeclared ts (type.Named k) outside = let past : length ts ≤ k = omega arith in slice_get_past ts k past

pub without_properties : (ts : List TypeInfo) (ty : Ty) → (IsType (length ts) ty → ⊥) → (types_resolved ts).properties ty ≡ []
without_properties ts ty outside = ap declared_fields (undeclared ts ty outside)
