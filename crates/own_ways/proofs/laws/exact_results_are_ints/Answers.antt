use Rattle.own_ways.proofs.Results.{exact_is_int}
use Rattle.own_ways.proofs.laws.exact_results_are_ints.Goals as goal

pub returns : goal.returns
returns c = exact_is_int
