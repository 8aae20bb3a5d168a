use Rattle.own_paths.proofs.Proved.{leaves_have_one_fact}
use Rattle.own_paths.proofs.laws.leaves_have_one_fact.Goals as goal

pub returns : goal.returns
returns c = leaves_have_one_fact
