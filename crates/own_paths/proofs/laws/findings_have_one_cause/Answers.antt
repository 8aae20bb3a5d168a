use Rattle.own_paths.proofs.Proved.{findings_have_one_cause}
use Rattle.own_paths.proofs.laws.findings_have_one_cause.Goals as goal

pub returns : goal.returns
returns c = findings_have_one_cause
