use Rattle.own_match.proofs.Exact.{has_value_is_exact}
use Rattle.own_match.proofs.laws.has_value_is_exact.Goals as goal

pub returns : goal.returns
returns c = has_value_is_exact
