use Rattle.own_judged.proofs.Proved.{never_both}
use Rattle.own_judged.proofs.laws.never_both.Goals as goal

pub returns : goal.returns
returns c = never_both
