-- The fact of a leaf before a node of the graph: over all walks there.
use Rattle.std.specs.Prelude.{◌≡◌, ℕ, Bool, true, false, List, [], ◌∷◌, filter, if◌then◌else◌, length, map, slice_get, slice_index_or, Option, Some, None}
use Rattle.own_tree.specs.declared.graph.BodyFacts.{BodyFacts}
use Rattle.own_tree.specs.declared.graph.LeafFact.{LeafFact}
use Rattle.own_tree.specs.declared.graph.Node.{Node}
use Rattle.own_tree.specs.declared.op.Op.{Op}
use Rattle.own_tree.specs.declared.op.OpKind.{OpKind}
use Rattle.own_tree.specs.declared.op.OpKind.TheVariants as kind
use Rattle.own_tree.specs.declared.place.Place.{Place}
use Rattle.own_paths.specs.Facts.{IsFactBy}
use Rattle.own_paths.specs.Makers.{BodyUses, is_live, maker}
use Rattle.own_shapes.specs.Places.{covers}
use Rattle.own_walks.specs.Graphs.{Walk}

module _ (uses : BodyUses) (nodes : List Node) (entry : ℕ) where
  -- some walk comes to the node with the leaf live, or not live
  abbrev pub MayBeAt : ℕ → Place → Bool → Type 0
  MayBeAt v leaf live = (before : List Op) × Walk 0 nodes entry before v × (is_live (maker uses leaf before) ≡ live)

  abbrev pub IsFactAtNode : ℕ → Place → LeafFact → Type 0
  IsFactAtNode v leaf f = IsFactBy (MayBeAt v leaf) f

  -- these are the facts of these leaves, in order
  abbrev pub AreFactsAtNode : ℕ → List Place → List LeafFact → Type 0
  AreFactsAtNode v [] [] = Unit {0}
  AreFactsAtNode v [] (f ∷ fs) = ⊥
  AreFactsAtNode v (leaf ∷ leaves) [] = ⊥
  AreFactsAtNode v (leaf ∷ leaves) (f ∷ fs) = IsFactAtNode v leaf f × AreFactsAtNode v leaves fs

-- ---- the facts of a body

-- what may destroy what a place held: an End or an Assign
abbrev pub destroys : OpKind → Bool
destroys kind.End = true
destroys kind.Assign = true
destroys kind.Declare = false
destroys kind.Make = false
destroys kind.Read = false
destroys kind.Borrow = false
destroys kind.Inout = false
destroys kind.Consume = false
destroys kind.Discard = false
destroys kind.Capture = false

-- the leaves of which facts are kept: at an End or an Assign those at its place or below it
abbrev pub kept_leaves : Option Op → List Place → List Place
kept_leaves None leaves = []
kept_leaves (Some o) leaves = if destroys o.kind then filter (λ leaf. covers o.place leaf) leaves else []

-- Of each node its op, and the facts of the leaves that it destroys.
pub record AreFactsOfBody (uses : BodyUses) (nodes : List Node) (entry : ℕ) (facts : BodyFacts) : Type 0 where
  pub leaves : facts.leaves ≡ uses.leaves
  pub ops : facts.ops ≡ map (λ n. n.op) nodes
  pub as_many : length facts.rows ≡ length nodes
  pub rows : (u : ℕ) (n : Node) → slice_get nodes u ≡ Some n
      → AreFactsAtNode uses nodes entry u (kept_leaves n.op uses.leaves) (slice_index_or facts.rows u [])
