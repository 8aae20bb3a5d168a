-- The limits of a text before its bodies are typed, M4 to M8: what is counted, and where.
use Rattle.std.specs.Prelude.{ℕ, suc, Bool, true, ◌&&◌, if◌then◌else◌, List, [], ◌∷◌, ◌++◌, length, nat_le, Option}
use Rattle.own_tree.specs.declared.limits.TheConstants.{MOST_TYPES, MOST_FIELDS, MOST_BODIES, MOST_PARAMETERS, MOST_TYPE_SLOTS}
use Rattle.own_tree.specs.declared.place.Ty.{Ty}
use Rattle.own_tree.specs.declared.place.Ty.TheVariants as type
use Rattle.own_tree.specs.declared.span.Span.{Span}
use Rattle.own_tree.specs.Source.{File}
use Rattle.own_shapes.specs.declared.counted.Counted.{Counted}
use Rattle.own_shapes.specs.Counts.{counted, first_over, too_many}
use Rattle.own_survey.specs.Parts.{Part, a_body, a_case, a_print, file_parts}
use Rattle.own_shapes.specs.Types.{Types, Declared, declared_types, resolved, contained, slots}

-- ---- M4, M5 and M8: types

abbrev pub type_names : List Declared → List Span
type_names [] = []
type_names (d ∷ ds) = d.name.span ∷ type_names ds

-- the stored properties of a struct, or the cases of an enum
abbrev pub part_counts : List Declared → List Counted
part_counts [] = []
part_counts (d ∷ ds) = counted (if d.is_enum then length d.cases else length d.fields) d.name.span ∷ part_counts ds

abbrev pub are_within : Types → ℕ → List Ty → Bool
are_within types largest [] = true
are_within types largest (ty ∷ tys) = nat_le (slots (types.shape ty)) largest && are_within types largest tys

-- The slots of each type whose parts are within the limit. A type has no fewer slots than a part of it, so then
-- all that it contains is within.
abbrev pub slot_counts : Types → ℕ → List Declared → ℕ → List Declared → List Counted
slot_counts types largest all k [] = []
slot_counts types largest all k (d ∷ ds) =
    if are_within types largest (contained (resolved all d)) then counted (slots (types.shape (type.Named k))) d.name.span ∷ slot_counts types largest all (suc k) ds
    else slot_counts types largest all (suc k) ds

-- ---- M6 and M7: bodies and what they take, cases and calls of `print`

abbrev pub body_place : Part → List Span
body_place (a_body at n) = at ∷ []
body_place _ = []

-- a body, a case or a call of `print`, and how much it takes
abbrev pub taken_count : Part → List Counted
taken_count (a_body at n) = counted n at ∷ []
taken_count (a_case at n) = counted n at ∷ []
taken_count (a_print at n) = counted n at ∷ []
taken_count _ = []

abbrev pub body_places : List Part → List Span
body_places [] = []
body_places (p ∷ ps) = body_place p ++ body_places ps

abbrev pub taken_counts : List Part → List Counted
taken_counts [] = []
taken_counts (p ∷ ps) = taken_count p ++ taken_counts ps

-- ---- the limits

abbrev pub over_M4 : File → Option Counted
over_M4 file = too_many MOST_TYPES (type_names (declared_types file.declarations))

abbrev pub over_M5 : File → Option Counted
over_M5 file = first_over MOST_FIELDS (part_counts (declared_types file.declarations))

abbrev pub over_M6 : File → Option Counted
over_M6 file = too_many MOST_BODIES (body_places (file_parts file))

abbrev pub over_M7 : File → Option Counted
over_M7 file = first_over MOST_PARAMETERS (taken_counts (file_parts file))

abbrev pub over_M8 : Types → File → Option Counted
over_M8 types file = let ds = declared_types file.declarations in first_over MOST_TYPE_SLOTS (slot_counts types MOST_TYPE_SLOTS ds 0 ds)
