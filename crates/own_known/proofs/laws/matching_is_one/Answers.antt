use Rattle.own_known.proofs.Matched.{matching_is_one}
use Rattle.own_known.proofs.laws.matching_is_one.Goals as goal

pub returns : goal.returns
returns c = matching_is_one
