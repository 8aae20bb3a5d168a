use Rattle.own_breaks.proofs.Best.{best_are_findings}
use Rattle.own_breaks.proofs.laws.best_are_findings.Goals as goal

pub returns : goal.returns
returns c = λ uses all best sound complete are. best_are_findings uses all best sound complete are
