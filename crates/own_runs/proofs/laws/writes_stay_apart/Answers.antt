use Rattle.own_runs.proofs.Proved.{writes_stay_apart}
use Rattle.own_runs.proofs.laws.writes_stay_apart.Goals as goal

pub returns : goal.returns
returns c = writes_stay_apart
