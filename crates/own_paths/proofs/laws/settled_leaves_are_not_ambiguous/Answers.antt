use Rattle.own_paths.proofs.Exceeded.{settled_leaves_are_not_ambiguous}
use Rattle.own_paths.proofs.laws.settled_leaves_are_not_ambiguous.Goals as goal

pub returns : goal.returns
returns c = settled_leaves_are_not_ambiguous
