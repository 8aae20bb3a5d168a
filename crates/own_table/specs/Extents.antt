-- The slots of the types of a text that are within M8, and the first type that is not while its parts are.
use Rattle.std.specs.Prelude.{◌≡◌, ℕ, suc, ◌+◌, ◌<◌, ◌≤◌, max, nat_lt, nat_le, All, ◌||◌, if◌then◌else◌, List, [], ◌∷◌, length, slice_get, Option, Some, None}
use Rattle.own_tree.specs.declared.limits.TheConstants.{MOST_FIELDS, MOST_PARAMETERS, MOST_TYPE_SLOTS}
use Rattle.own_tree.specs.declared.place.Ty.{Ty}
use Rattle.own_tree.specs.declared.place.Ty.TheVariants as type
use Rattle.own_shapes.specs.declared.info.CaseInfo.{CaseInfo}
use Rattle.own_shapes.specs.declared.info.TypeInfo.{TypeInfo}
use Rattle.own_table.specs.declared.extent.Over.{Over}
use Rattle.own_survey.specs.Limits.{are_within}
use Rattle.own_shapes.specs.Types.{is_empty, Types, slots, one_if, contained, field_types, types_resolved}

-- within M5 and M7
pub record HasFewParts (t : TypeInfo) : Type 0 where
  pub fields : length t.fields ≤ MOST_FIELDS
  pub cases : length t.cases ≤ MOST_FIELDS
  pub payloads : All (λ c. length c.payloads ≤ MOST_PARAMETERS) t.cases

abbrev pub HaveFewParts : List TypeInfo → Type 0
HaveFewParts ts = All HasFewParts ts

-- a number that is within M8
abbrev pub within_M8 : ℕ → Option ℕ
within_M8 n = if nat_le n MOST_TYPE_SLOTS then Some n else None

-- the slots of each type that is within M8
pub record AreKnown (ts : List TypeInfo) (all : List (Option ℕ)) : Type 0 where
  pub each : length all ≡ length ts
  pub known : (k : ℕ) → k < length ts → slice_get all k ≡ Some (within_M8 (slots ((types_resolved ts).shape (type.Named k))))

-- ---- by what is known of the parts

abbrev pub known_at : Option (Option ℕ) → Option ℕ
known_at None = None
known_at (Some o) = o

abbrev pub part_slots : List (Option ℕ) → Ty → Option ℕ
part_slots known type.Int = Some 1
part_slots known type.Bool = Some 1
part_slots known type.Unit = Some 0
part_slots known (type.Fun k) = Some 2
part_slots known (type.Named k) = known_at (slice_get known k)

abbrev pub plus : Option ℕ → Option ℕ → Option ℕ
plus None o = None
plus (Some m) None = None
plus (Some m) (Some n) = Some (m + n)

abbrev pub larger : Option ℕ → Option ℕ → Option ℕ
larger None o = None
larger (Some m) None = None
larger (Some m) (Some n) = Some (max m n)

-- None where a part is over M8
abbrev pub sum_of_parts : List (Option ℕ) → List Ty → Option ℕ
sum_of_parts known [] = Some 0
sum_of_parts known (ty ∷ tys) = plus (part_slots known ty) (sum_of_parts known tys)

abbrev pub most_of_cases : List (Option ℕ) → List CaseInfo → Option ℕ
most_of_cases known [] = Some 0
most_of_cases known (c ∷ cs) = larger (sum_of_parts known c.payloads) (most_of_cases known cs)

abbrev pub slots_by_parts : List (Option ℕ) → TypeInfo → Option ℕ
slots_by_parts known t =
    if t.is_enum then plus (Some 1) (most_of_cases known t.cases)
    else plus (Some (one_if (t.has_deinit || is_empty t.fields))) (sum_of_parts known (field_types t.fields))

-- what is known is small
abbrev pub IsSmall : Option ℕ → Type 0
IsSmall None = Unit {0}
IsSmall (Some n) = n ≤ MOST_TYPE_SLOTS

-- ---- M8

abbrev pub kept_within : Option ℕ → Option ℕ
kept_within None = None
kept_within (Some n) = within_M8 n

-- the first type over M8 of which all parts are within, with its slots
abbrev pub beyond_M8 : Option ℕ → Option ℕ
beyond_M8 None = None
beyond_M8 (Some n) = if nat_lt MOST_TYPE_SLOTS n then Some n else None

abbrev pub over_at : ℕ → Option ℕ → Option Over → Option Over
over_at k None later = later
over_at k (Some n) later = Some (record { number = k; count = n })

abbrev pub counted_at : Types → ℕ → TypeInfo → Option ℕ
counted_at types k t = if are_within types MOST_TYPE_SLOTS (contained t) then Some (slots (types.shape (type.Named k))) else None

abbrev pub first_over_from : Types → ℕ → List TypeInfo → Option Over
first_over_from types k [] = None
first_over_from types k (t ∷ ts) = over_at k (beyond_M8 (counted_at types k t)) (first_over_from types (suc k) ts)

abbrev pub first_over_M8 : List TypeInfo → Option Over
first_over_M8 ts = first_over_from (types_resolved ts) 0 ts
