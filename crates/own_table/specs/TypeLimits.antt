-- M8 by the numbers of the types.
use Rattle.std.specs.Prelude.{ℕ, if◌then◌else◌, List, [], ◌∷◌, length, Option, Some, None, slice_get}
use Rattle.own_tree.specs.declared.span.Span.{Span}
use Rattle.own_table.specs.declared.extent.Over.{Over}
use Rattle.own_shapes.specs.declared.info.TypeInfo.{TypeInfo}
use Rattle.own_shapes.specs.declared.counted.Counted.{Counted}
use Rattle.own_shapes.specs.Counts.{counted}
use Rattle.own_survey.specs.Limits.{type_names}
use Rattle.own_shapes.specs.Types.{Declared}

abbrev pub at_span : ℕ → Option Span → Option Counted
at_span count None = None
at_span count (Some at) = Some (counted count at)

-- at the name of the type with that number
abbrev pub at_name : List Declared → Option Over → Option Counted
at_name ds None = None
at_name ds (Some o) = at_span o.count (slice_get (type_names ds) o.number)

-- M5, by the resolved declarations and the names
abbrev pub part_count : TypeInfo → ℕ
part_count t = if t.is_enum then length t.cases else length t.fields

abbrev pub counts_of : List TypeInfo → List Span → List Counted
counts_of [] spans = []
counts_of (t ∷ ts) [] = []
counts_of (t ∷ ts) (s ∷ ss) = counted (part_count t) s ∷ counts_of ts ss
