use Rattle.own_judged.proofs.Proved.{typed_or_refused}
use Rattle.own_judged.proofs.laws.typed_or_refused.Goals as goal

pub returns : goal.returns
returns c = typed_or_refused
