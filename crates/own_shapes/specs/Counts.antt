-- Counts and limits: which count is named as over a limit, and where.
use Rattle.std.specs.Prelude.{ℕ, ◌<◌, List, [], ◌∷◌, length, slice_get, nat_lt, if◌then◌else◌, Option, Some, None}
use Rattle.own_tree.specs.declared.span.Span.{Span}
use Rattle.own_shapes.specs.declared.counted.Counted.{Counted}

abbrev pub counted : ℕ → Span → Counted
counted count at = record { count = count; at = at }

-- the first of these whose count is larger
abbrev pub first_over : ℕ → List Counted → Option Counted
first_over largest [] = None
first_over largest (c ∷ cs) = if nat_lt largest c.count then Some c else first_over largest cs

-- where there are more than that many, the first one past them, with the count of all
abbrev pub too_many : ℕ → List Span → Option Counted
too_many largest spans = elim (slice_get spans largest) [ None ↦ None | Some at ↦ Some (counted (length spans) at) ]

-- what is named as over a limit has a larger count
abbrev pub IsExceeded : ℕ → Option Counted → Type 0
IsExceeded largest None = Unit {0}
IsExceeded largest (Some c) = largest < c.count
