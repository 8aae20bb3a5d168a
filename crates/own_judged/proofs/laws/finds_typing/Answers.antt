use Rattle.own_judged.proofs.Proved.{finds_typing}
use Rattle.own_judged.proofs.laws.finds_typing.Goals as goal

pub returns : goal.returns
returns c = finds_typing
