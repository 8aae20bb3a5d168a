use Rattle.own_paths.proofs.Proved.{traces_stay}
use Rattle.own_paths.proofs.laws.traces_stay.Goals as goal

pub returns : goal.returns
returns c = traces_stay
