use Rattle.own_shapes.proofs.PlaceOrder.{places_are_ordered}
use Rattle.own_shapes.proofs.laws.places_are_ordered.Goals as goal

pub returns : goal.returns
returns c = places_are_ordered
