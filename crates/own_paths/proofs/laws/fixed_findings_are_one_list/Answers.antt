use Rattle.own_paths.proofs.Proved.{fixed_findings_are_one_list}
use Rattle.own_paths.proofs.laws.fixed_findings_are_one_list.Goals as goal

pub returns : goal.returns
returns c = fixed_findings_are_one_list
