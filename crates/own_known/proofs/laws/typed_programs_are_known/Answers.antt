use Rattle.own_known.proofs.Proved.{typed_programs_are_known}
use Rattle.own_known.proofs.laws.typed_programs_are_known.Goals as goal

pub returns : goal.returns
returns c = typed_programs_are_known
