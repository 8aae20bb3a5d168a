use Rattle.own_walks.proofs.Law.{walks_are_traces}
use Rattle.own_walks.proofs.laws.walks_are_traces.Goals as goal

pub returns : goal.returns
returns c = λ ns t entry g. walks_are_traces 0 ns t entry g
