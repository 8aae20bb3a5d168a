use Rattle.std.proofs.Common.{◌≡◌, ◌++◌, drop}
use Rattle.own_paths.specs.Fixed.{all_conflicts}
use Rattle.own_excl.specs.View.{accesses_view, breaks_view}
use Rattle.own_excl.proofs.calls.push_all_conflicts.Given as goal

abbrev pub invariant-loop-later : goal.invariant-loop-later
invariant-loop-later l =
    breaks_view l.breaks.items ++ all_conflicts (accesses_view l.earlier) (accesses_view (drop l.later-index l.claims)) ≡ breaks_view l.fn.breaks.items ++ all_conflicts (accesses_view l.earlier) (accesses_view l.claims)
