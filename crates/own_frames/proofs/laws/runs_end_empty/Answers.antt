use Rattle.own_frames.proofs.Proved.{runs_end_empty}
use Rattle.own_frames.proofs.laws.runs_end_empty.Goals as goal

pub returns : goal.returns
returns c = runs_end_empty
