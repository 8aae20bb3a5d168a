use Rattle.std.proofs.Common.{◌≡◌, ◌++◌, drop, None}
use Rattle.own_excl.specs.Order.{kept_after}
use Rattle.own_excl.specs.View.{breaks_view, last_view}
use Rattle.own_excl.proofs.breaks.first_of_each.Given as goal

abbrev pub invariant-loop-found : goal.invariant-loop-found
invariant-loop-found l = l.row ++ kept_after (last_view l.last) (breaks_view (drop l.found-index l.breaks)) ≡ kept_after None (breaks_view l.breaks)
