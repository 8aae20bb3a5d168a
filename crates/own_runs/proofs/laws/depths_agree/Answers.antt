use Rattle.own_runs.proofs.Proved.{depths_agree}
use Rattle.own_runs.proofs.laws.depths_agree.Goals as goal

pub returns : goal.returns
returns c = depths_agree
