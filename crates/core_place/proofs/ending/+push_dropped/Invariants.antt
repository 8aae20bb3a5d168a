use Rattle.core_place.proofs.ending.+push_dropped.Given as goal

abbrev pub decreases-push_dropped : goal.decreases-push_dropped
decreases-push_dropped l = l.depth
