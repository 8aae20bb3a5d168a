use Rattle.core_place.proofs.places.Places.makers_to.Given as goal

abbrev pub decreases-loop-at : goal.decreases-loop-at
decreases-loop-at l = l.at
