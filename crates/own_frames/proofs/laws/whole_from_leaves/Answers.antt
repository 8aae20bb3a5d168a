use Rattle.own_frames.proofs.Proved.{whole_from_leaves}
use Rattle.own_frames.proofs.laws.whole_from_leaves.Goals as goal

pub returns : goal.returns
returns c = whole_from_leaves
