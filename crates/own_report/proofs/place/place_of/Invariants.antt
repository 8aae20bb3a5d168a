use Rattle.own_report.proofs.PlaceSteps.{IsOn}
use Rattle.own_report.proofs.place.place_of.Given as goal

abbrev pub invariant-loop-index : goal.invariant-loop-index
invariant-loop-index l = IsOn l.text l.at l.index l.place
