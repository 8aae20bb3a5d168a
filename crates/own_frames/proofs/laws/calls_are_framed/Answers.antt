use Rattle.own_frames.proofs.Proved.{calls_are_framed}
use Rattle.own_frames.proofs.laws.calls_are_framed.Goals as goal

pub returns : goal.returns
returns c = calls_are_framed
