use Rattle.own_walks.proofs.Carried.{comes_by}
use Rattle.own_walks.proofs.laws.marks_are_makers.Goals as goal

pub returns : goal.returns
returns c = λ uses ns entry pairs are v l leaf m here. comes_by uses 0 ns entry pairs are v l leaf m here
