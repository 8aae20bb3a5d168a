use Rattle.own_runs.proofs.Proved.{untouched_by_long_runs}
use Rattle.own_runs.proofs.laws.untouched_by_long_runs.Goals as goal

pub returns : goal.returns
returns c = untouched_by_long_runs
