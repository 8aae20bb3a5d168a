-- Whether a body falls off its end: whether a walk comes to node 1, the return at the closing brace.
use Rattle.std.specs.Prelude.{◌≡◌, ℕ, false, IsTrue, List, [], ◌∷◌}
use Rattle.own_tree.specs.declared.finding.Finding.{Finding}
use Rattle.own_tree.specs.declared.finding.Rule.TheVariants as rule
use Rattle.own_tree.specs.declared.graph.Graph.{Graph}
use Rattle.own_tree.specs.declared.graph.Makers.{Makers}
use Rattle.own_tree.specs.declared.op.Op.{Op}
use Rattle.own_tree.specs.declared.place.Ty.{Ty}
use Rattle.own_tree.specs.declared.span.Span.{Span}
use Rattle.own_paths.specs.Fixed.{broken}
use Rattle.own_paths.specs.Ops.{has_result}
use Rattle.own_shapes.specs.Places.{whole}
use Rattle.own_walks.specs.Graphs.{Walk}

-- one leaf that nothing but the start makes
abbrev pub alone : ℕ → Makers
alone entry = record { leaves = whole 0 ∷ []; pairs = record { node = entry; leaf = 0; live = false } ∷ [] }

abbrev pub Falls : Graph → Type 0
Falls graph = (os : List Op) × Walk 0 graph.nodes graph.entry os 1

-- the end at this brace of a body with this result is reached, and this is the finding
abbrev pub FallsHere : Graph → Ty → Span → Finding → Type 0
FallsHere graph ty close f = IsTrue (has_result ty) × Falls graph × (f ≡ broken rule.F1 close (whole 0) close)
