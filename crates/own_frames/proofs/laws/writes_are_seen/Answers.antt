use Rattle.own_frames.proofs.Proved.{writes_are_seen}
use Rattle.own_frames.proofs.laws.writes_are_seen.Goals as goal

pub returns : goal.returns
returns c = writes_are_seen
