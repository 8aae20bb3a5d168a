use Rattle.own_frames.proofs.Proved.{leaves_are_emptied}
use Rattle.own_frames.proofs.laws.leaves_are_emptied.Goals as goal

pub returns : goal.returns
returns c = leaves_are_emptied
