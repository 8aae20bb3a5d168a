use Rattle.own_shapes.proofs.Leaves.{opened_leaves_are_apart}
use Rattle.own_shapes.proofs.laws.opened_leaves_are_apart.Goals as goal

pub returns : goal.returns
returns c = opened_leaves_are_apart
