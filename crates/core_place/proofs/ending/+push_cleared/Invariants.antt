use Rattle.core_place.proofs.ending.+push_cleared.Given as goal

abbrev pub decreases-push_cleared : goal.decreases-push_cleared
decreases-push_cleared l = l.depth
