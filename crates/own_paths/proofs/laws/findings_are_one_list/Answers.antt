use Rattle.own_paths.proofs.Proved.{findings_are_one_list}
use Rattle.own_paths.proofs.laws.findings_are_one_list.Goals as goal

pub returns : goal.returns
returns c = findings_are_one_list
