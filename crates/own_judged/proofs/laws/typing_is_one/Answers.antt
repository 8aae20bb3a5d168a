use Rattle.own_judged.proofs.Proved.{typing_is_one}
use Rattle.own_judged.proofs.laws.typing_is_one.Goals as goal

pub returns : goal.returns
returns c = typing_is_one
