use Rattle.own_paths.proofs.Proved.{sound_breaks_nothing}
use Rattle.own_paths.proofs.laws.sound_breaks_nothing.Goals as goal

pub returns : goal.returns
returns c = sound_breaks_nothing
