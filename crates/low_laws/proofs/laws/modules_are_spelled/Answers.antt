use Rattle.low_laws.proofs.Modules.{lowered_spelled}
use Rattle.low_laws.proofs.laws.modules_are_spelled.Goals as goal

pub returns : goal.returns
returns c = lowered_spelled
