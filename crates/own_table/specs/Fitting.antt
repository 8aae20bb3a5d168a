-- Types of which a table can be made, as tests.
use Rattle.std.specs.Prelude.{nat_le, Bool, not, ◌&&◌, ◌||◌, if◌then◌else◌, List, length}
use Rattle.std.specs.List.{list_all}
use Rattle.own_tree.specs.declared.limits.TheConstants.{MOST_TYPES, MOST_FIELDS, MOST_PARAMETERS}
use Rattle.own_tree.specs.declared.place.Ty.{Ty}
use Rattle.own_shapes.specs.declared.info.CaseInfo.{CaseInfo}
use Rattle.own_shapes.specs.declared.info.TypeInfo.{TypeInfo}
use Rattle.own_shapes.specs.Types.{contained, is_empty, is_part}
use Rattle.own_table.specs.Proper.{is_copyable_among}

abbrev pub has_few_payloads : CaseInfo → Bool
has_few_payloads c = nat_le (length c.payloads) MOST_PARAMETERS

-- within M5 and M7
abbrev pub has_few_parts : TypeInfo → Bool
has_few_parts t = nat_le (length t.fields) MOST_FIELDS && (nat_le (length t.cases) MOST_FIELDS && list_all has_few_payloads t.cases)

-- what a stored property or a payload may be of, in a noncopyable type or a copyable one (T01, T04)
abbrev pub is_content : List TypeInfo → Bool → Ty → Bool
is_content ts noncopyable ty = is_part (length ts) ty && (noncopyable || is_copyable_among ts ty)

abbrev pub has_content : List TypeInfo → TypeInfo → Bool
has_content ts t = list_all (is_content ts t.noncopyable) (contained t)

-- T05
abbrev pub has_own_deinit : TypeInfo → Bool
has_own_deinit t = not t.has_deinit || (t.noncopyable && not t.is_enum)

-- a struct has no cases, and an enum no stored properties
abbrev pub has_own_parts : TypeInfo → Bool
has_own_parts t = if t.is_enum then is_empty t.fields else is_empty t.cases

abbrev pub is_fit : List TypeInfo → TypeInfo → Bool
is_fit ts t = has_few_parts t && (has_own_deinit t && (has_own_parts t && has_content ts t))

-- Within M4, M5 and M7; T01, T04 and T05 hold; and each has the parts of its kind.
abbrev pub are_fit : List TypeInfo → Bool
are_fit ts = nat_le (length ts) MOST_TYPES && list_all (is_fit ts) ts
