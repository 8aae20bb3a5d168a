use Rattle.std.proofs.Common.{◌≡◌, ◌++◌, drop}
use Rattle.own_excl.specs.Found.{subject_found}
use Rattle.own_excl.specs.View.{changes_view, breaks_view}
use Rattle.own_excl.proofs.switches.push_within.Given as goal

abbrev pub invariant-loop-change : goal.invariant-loop-change
invariant-loop-change l =
    breaks_view l.breaks.items ++ subject_found l.subject (changes_view (drop l.change-index l.changes)) ≡ breaks_view l.fn.breaks.items ++ subject_found l.subject (changes_view l.changes)
