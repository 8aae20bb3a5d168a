use Rattle.own_shapes.proofs.Leaves.{parts_are_no_larger}
use Rattle.own_shapes.proofs.laws.parts_are_no_larger.Goals as goal

pub returns : goal.returns
returns c = parts_are_no_larger
