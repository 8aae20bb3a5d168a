use Rattle.own_runs.proofs.Proved.{writes_are_read}
use Rattle.own_runs.proofs.laws.writes_are_read.Goals as goal

pub returns : goal.returns
returns c = writes_are_read
