use Rattle.own_paths.proofs.Proved.{traces_split}
use Rattle.own_paths.proofs.laws.traces_split.Goals as goal

pub returns : goal.returns
returns c = traces_split
