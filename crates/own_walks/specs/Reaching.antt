-- Which makers reach which nodes: on some walk from the entry the maker is the last one of its leaf.
use Rattle.std.specs.Prelude.{◌≡◌, ℕ, zero, suc, ◌<◌, ◌≤◌, ◌⊎◌, Contains, List, length, slice_get, Some}
use Rattle.own_tree.specs.declared.graph.Maker.{Maker}
use Rattle.own_tree.specs.declared.graph.Node.{Node}

-- maker m is one of this leaf
abbrev pub IsOf : List Maker → ℕ → ℕ → Type 0
IsOf pairs m leaf = (q : Maker) × (slice_get pairs m ≡ Some q) × (q.leaf ≡ leaf)

-- node v may come right after node u
abbrev pub IsEdge : List Node → ℕ → ℕ → Type 0
IsEdge nodes u v = (n : Node) × (slice_get nodes u ≡ Some n) × Contains n.next v

-- all that may come next are nodes
abbrev pub EdgesLeadToNodes : List Node → Type 0
EdgesLeadToNodes nodes = (u v : ℕ) → IsEdge nodes u v → v < length nodes

-- The first makers, one for each leaf, stand for the start of the body, and are made at no node.
module _ (pairs : List Maker) (leaves : ℕ) where
  -- maker m is one of this leaf, at the node
  abbrev pub IsMadeAt : ℕ → ℕ → ℕ → Type 0
  IsMadeAt u m leaf = (leaves ≤ m) × (q : Maker) × (slice_get pairs m ≡ Some q) × (q.leaf ≡ leaf) × (q.node ≡ u)

  -- Where maker m is the last of its leaf before a node, m' is the last behind it: one at the node, and m itself where
  -- the node has none of that leaf.
  abbrev pub Becomes : ℕ → ℕ → ℕ → Type 0
  Becomes u m m' =
      (leaf : ℕ) × IsOf pairs m leaf × (IsMadeAt u m' leaf ⊎ ((m' ≡ m) × ((p : ℕ) → IsMadeAt u p leaf → ⊥)))

  module _ (nodes : List Node) (entry : ℕ) where
    -- some walk of so many steps from the entry comes to the node, with that maker as the last of its leaf
    abbrev pub ReachesIn : ℕ → ℕ → ℕ → Type 0
    ReachesIn zero u m = (u ≡ entry) × (m < leaves)
    ReachesIn (suc j) v m' = (u : ℕ) × (m : ℕ) × ReachesIn j u m × IsEdge nodes u v × Becomes u m m'

    abbrev pub Reaches : ℕ → ℕ → Type 0
    Reaches u m = (j : ℕ) × ReachesIn j u m
