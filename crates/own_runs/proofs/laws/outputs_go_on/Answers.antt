use Rattle.own_runs.proofs.Proved.{outputs_go_on}
use Rattle.own_runs.proofs.laws.outputs_go_on.Goals as goal

pub returns : goal.returns
returns c = outputs_go_on
