-- What a run leaves behind: what it wrote and what became of its tracked values, in order.
use Rattle.std.specs.Prelude.{ℕ, ◌^◌, ◌-◌, min, List, [], ◌∷◌, ◌++◌, codes}
use Rattle.std.specs.Fmt.{decimal}
use Rattle.own_tree.specs.declared.place.Ty.TheVariants as type
use Rattle.own_shapes.specs.Types.{Types}

-- Each has the type and the number of a tracked value. It was born; it was lent to a call; it was destroyed and its
-- `deinit` has returned; or `discard self` ended it (SE-0390).
pub data Event : Type 0 where
  made : (type number : ℕ) → Event
  used : (type number : ℕ) → Event
  ended_by_deinit : (type number : ℕ) → Event
  ended_by_discard : (type number : ℕ) → Event

-- the bytes of a `print`, or an event
pub data Item : Type 0 where
  printed : List ℕ → Item
  happened : Event → Item

-- ---- bytes

-- the largest number that an event's line shows
abbrev pub MOST_SHOWN : ℕ
MOST_SHOWN = 2 ^ 63 - 1

abbrev pub tag : Types → (type number : ℕ) → List ℕ
tag types t number = types.name (type.Named t) ++ codes " #" ++ decimal (min number MOST_SHOWN)

abbrev pub line : List ℕ → List ℕ
line bytes = bytes ++ 10 ∷ []

abbrev pub event_line : Types → Event → List ℕ
event_line types (made t number) = line (codes "made " ++ tag types t number)
event_line types (used t number) = line (codes "used " ++ tag types t number)
event_line types (ended_by_deinit t number) = line (codes "ended " ++ tag types t number ++ codes " by deinit")
event_line types (ended_by_discard t number) = line (codes "ended " ++ tag types t number ++ codes " by discard")

-- what was printed
abbrev pub output_of : List Item → List ℕ
output_of [] = []
output_of (printed bytes ∷ items) = bytes ++ output_of items
output_of (happened event ∷ items) = output_of items

-- what was printed with the line of each event at its moment
abbrev pub traced_output_of : Types → List Item → List ℕ
traced_output_of types [] = []
traced_output_of types (printed bytes ∷ items) = bytes ++ traced_output_of types items
traced_output_of types (happened event ∷ items) = event_line types event ++ traced_output_of types items

abbrev pub events_of : List Item → List Event
events_of [] = []
events_of (printed bytes ∷ items) = events_of items
events_of (happened event ∷ items) = event ∷ events_of items
