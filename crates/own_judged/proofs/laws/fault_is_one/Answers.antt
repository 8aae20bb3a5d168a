use Rattle.own_judged.proofs.Proved.{fault_is_one}
use Rattle.own_judged.proofs.laws.fault_is_one.Goals as goal

pub returns : goal.returns
returns c = fault_is_one
