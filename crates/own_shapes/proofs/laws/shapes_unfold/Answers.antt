use Rattle.own_shapes.proofs.Unfolding.{shapes_unfold}
use Rattle.own_shapes.proofs.laws.shapes_unfold.Goals as goal

pub returns : goal.returns
returns c = shapes_unfold
