-- What the members of a type say, each by itself.
use Rattle.std.specs.Prelude.{ℕ, Bool, true, false, List, map}
use Rattle.own_tree.specs.declared.place.Ty.{Ty}
use Rattle.own_tree.specs.Source.{Decl, Member, field, initializer, deinitializer, method, cases}
use Rattle.own_shapes.specs.declared.info.CaseInfo.{CaseInfo}
use Rattle.own_shapes.specs.declared.info.FieldInfo.{FieldInfo}
use Rattle.own_shapes.specs.declared.info.TypeInfo.{TypeInfo}
use Rattle.own_shapes.specs.Types.{declared_types, fields_of, cases_of, resolved_field, resolved_case, resolved_by}

abbrev pub member_fields : (List ℕ → Ty) → List Member → List FieldInfo
member_fields type_of ms = map (resolved_field type_of) (fields_of ms)

abbrev pub member_cases : (List ℕ → Ty) → List Member → List CaseInfo
member_cases type_of ms = map (resolved_case type_of) (cases_of ms)

abbrev pub declared_infos : (List ℕ → Ty) → List Decl → List TypeInfo
declared_infos type_of ds = map (resolved_by type_of) (declared_types ds)

abbrev pub is_deinitializer : Member → Bool
is_deinitializer (field f) = false
is_deinitializer (initializer s ps b) = false
is_deinitializer (deinitializer s b) = true
is_deinitializer (method s mode f) = false
is_deinitializer (cases s cs) = false
