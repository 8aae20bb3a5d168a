use Rattle.own_runs.proofs.Proved.{once_by_long_runs}
use Rattle.own_runs.proofs.laws.once_by_long_runs.Goals as goal

pub returns : goal.returns
returns c = once_by_long_runs
