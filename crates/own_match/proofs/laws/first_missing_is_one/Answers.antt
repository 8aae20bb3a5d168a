use Rattle.own_match.proofs.Ordered.{first_missing_is_one}
use Rattle.own_match.proofs.laws.first_missing_is_one.Goals as goal

pub returns : goal.returns
returns c = first_missing_is_one
