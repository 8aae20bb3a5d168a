use Rattle.own_paths.proofs.Proved.{traces_go_on}
use Rattle.own_paths.proofs.laws.traces_go_on.Goals as goal

pub returns : goal.returns
returns c = traces_go_on
