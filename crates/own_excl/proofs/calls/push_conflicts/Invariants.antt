use Rattle.std.proofs.Common.{◌≡◌, ◌++◌, drop}
use Rattle.own_paths.specs.Fixed.{conflicts_with}
use Rattle.own_excl.specs.View.{access_view, accesses_view, breaks_view}
use Rattle.own_excl.proofs.calls.push_conflicts.Given as goal

abbrev pub invariant-loop-held : goal.invariant-loop-held
invariant-loop-held l =
    breaks_view l.breaks.items ++ conflicts_with (accesses_view (drop l.held-index l.earlier)) (access_view l.later) ≡ breaks_view l.fn.breaks.items ++ conflicts_with (accesses_view l.earlier) (access_view l.later)
