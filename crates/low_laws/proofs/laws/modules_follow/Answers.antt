use Rattle.low_laws.proofs.Whole.{modules_follow}
use Rattle.low_laws.proofs.laws.modules_follow.Goals as goal

pub returns : goal.returns
returns c = modules_follow
