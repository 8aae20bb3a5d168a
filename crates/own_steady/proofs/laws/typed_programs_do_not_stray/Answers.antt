use Rattle.own_steady.proofs.Proved.{typed_programs_do_not_stray}
use Rattle.own_steady.proofs.laws.typed_programs_do_not_stray.Goals as goal

pub returns : goal.returns
returns c = typed_programs_do_not_stray
