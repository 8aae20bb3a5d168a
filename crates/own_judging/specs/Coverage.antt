-- How it is found out whether patterns cover each value of a type (T20).
use Rattle.std.specs.Prelude.{true, List, length, replicate, Option, Some, None}
use Rattle.own_tree.specs.declared.place.Ty.{Ty}
use Rattle.own_tree.specs.declared.span.Span.{Span}
use Rattle.own_tree.specs.TypedSource.{TPat, TPats, no_pats, pat}
use Rattle.own_shapes.specs.Types.{Shape}
use Rattle.own_match.specs.Search.{gap, gap_end}
use Rattle.own_judging.specs.Made.{Made, uncovered, Found, made, stop}

-- the form at the one place there is
abbrev pub only : Option TPats → Option TPat
only None = None
only (Some no_pats) = None
only (Some (pat f fs)) = Some f

-- the first form that patterns miss, by the search of coverage with all of them alive
unfoldable pub first_missing : List TPat → Shape → Option TPat
first_missing ps s = only (gap s ps gap_end (replicate (length ps) true))

abbrev pub covering_run : Option TPat → Span → Ty → Made → Found (Unit {0})
covering_run None at ty s = made tt s
covering_run (Some p) at ty s = stop (Unit {0}) (uncovered at ty p)
