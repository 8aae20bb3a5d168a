use Rattle.own_steady.proofs.Proved.{steady_programs_do_not_stray}
use Rattle.own_steady.proofs.laws.steady_programs_do_not_stray.Goals as goal

pub returns : goal.returns
returns c = steady_programs_do_not_stray
