use Rattle.own_paths.proofs.Proved.{traces_exist}
use Rattle.own_paths.proofs.laws.traces_exist.Goals as goal

pub returns : goal.returns
returns c = traces_exist
