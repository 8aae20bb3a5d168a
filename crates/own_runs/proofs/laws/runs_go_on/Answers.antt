use Rattle.own_runs.proofs.Proved.{runs_go_on}
use Rattle.own_runs.proofs.laws.runs_go_on.Goals as goal

pub returns : goal.returns
returns c = runs_go_on
