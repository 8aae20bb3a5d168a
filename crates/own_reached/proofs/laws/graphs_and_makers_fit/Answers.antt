use Rattle.own_reached.proofs.Joined.{joined}
use Rattle.own_reached.proofs.laws.graphs_and_makers_fit.Goals as goal

pub returns : goal.returns
returns c = joined
