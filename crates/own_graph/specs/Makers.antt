-- What is right of the makers of a body.
use Rattle.std.specs.Prelude.{◌≡◌, ℕ, Bool, List, slice_get}
use Rattle.own_tree.specs.declared.graph.Graph.{Graph}
use Rattle.own_tree.specs.declared.graph.Makers.{Makers}
use Rattle.own_tree.specs.declared.op.Op.{Op}
use Rattle.own_tree.specs.declared.place.Binding.{Binding}
use Rattle.own_paths.specs.Makers.{BodyUses, consumes_in_vain}
use Rattle.own_shapes.specs.Types.{Types}
use Rattle.own_walks.specs.Pairs.{pairs_of}

-- the leaves of the bindings that the body declares, and their makers at the nodes of its graph
pub record AreMakersOf (uses : BodyUses) (graph : Graph) (makers : Makers) : Type 0 where
  pub leaves : makers.leaves ≡ uses.leaves
  pub pairs : makers.pairs ≡ pairs_of uses graph.nodes graph.entry

-- an op of body number k that ends nothing
abbrev pub ends_nothing_in : Types → List Binding → ℕ → Op → Bool
ends_nothing_in types bindings k o = consumes_in_vain types k (slice_get bindings o.place.binding) o
