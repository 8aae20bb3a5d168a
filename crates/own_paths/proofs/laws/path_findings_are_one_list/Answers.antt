use Rattle.own_paths.proofs.Proved.{path_findings_are_one_list}
use Rattle.own_paths.proofs.laws.path_findings_are_one_list.Goals as goal

pub returns : goal.returns
returns c = path_findings_are_one_list
