use Rattle.std.proofs.Common.{◌≡◌}
use Rattle.own_report.specs.Place.{place_at}
use Rattle.own_report.proofs.places.place_after.Given as goal

abbrev pub invariant-loop-index : goal.invariant-loop-index
invariant-loop-index l = l.place ≡ place_at l.text l.index
