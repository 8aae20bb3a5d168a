use Rattle.std.proofs.Common.{◌≡◌, ◌*◌, length}
use Rattle.own_report.specs.Place.{place_at, AreKnown}
use Rattle.own_report.specs.declared.places.TheConstants.{STRIDE}
use Rattle.own_report.proofs.places.Places.of.Given as goal

abbrev pub invariant-loop-number : goal.invariant-loop-number
invariant-loop-number l = record {
  place : l.place ≡ place_at l.text (l.number * STRIDE);
  each : length l.known.items ≡ l.number;
  exact : AreKnown l.text l.known.items;
}
