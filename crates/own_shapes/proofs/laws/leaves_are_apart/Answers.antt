use Rattle.own_shapes.proofs.Leaves.{leaves_are_apart}
use Rattle.own_shapes.proofs.laws.leaves_are_apart.Goals as goal

pub returns : goal.returns
returns c = leaves_are_apart
