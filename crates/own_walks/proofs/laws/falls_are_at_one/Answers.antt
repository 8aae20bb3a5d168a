use Rattle.own_walks.proofs.FallingOff.{falls_at_one}
use Rattle.own_walks.proofs.laws.falls_are_at_one.Goals as goal

pub returns : goal.returns
returns c = λ uses. falls_at_one uses
