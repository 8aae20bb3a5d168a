-- Which maker is the last of its leaf on a trace that comes to a node, by the nodes that its walk leaves.
use Rattle.std.specs.Prelude.{◌≡◌, ℕ, ◌<◌, Contains, List, [], ◌∷◌, ◌++◌, length, slice_get, Option, Some, None}
use Rattle.own_tree.specs.declared.graph.Graph.{Graph}
use Rattle.own_tree.specs.declared.graph.Maker.{Maker}
use Rattle.own_tree.specs.declared.graph.Makers.{Makers}
use Rattle.own_tree.specs.declared.graph.Node.{Node}
use Rattle.own_tree.specs.declared.op.Op.{Op}
use Rattle.own_tree.specs.OpSource.{Ops}
use Rattle.own_walks.specs.Graphs.{IsPrefix, ops_at}
use Rattle.own_walks.specs.Reaching.{IsEdge, IsMadeAt, IsOf}

-- ---- walks by their nodes

abbrev pub ops_of : Option Node → List Op
ops_of None = []
ops_of (Some n) = ops_at n.op

module _ (nodes : List Node) where
  -- a walk from node u that leaves these nodes, one after another, and comes to node v
  abbrev pub GoesOver : ℕ → List ℕ → ℕ → Type 0
  GoesOver u [] v = u ≡ v
  GoesOver u (x ∷ xs) v = (u ≡ x) × (m : ℕ) × IsEdge nodes u m × GoesOver m xs v

  -- the ops of these nodes
  abbrev pub ops_over : List ℕ → List Op
  ops_over [] = []
  ops_over (x ∷ xs) = ops_of (slice_get nodes x) ++ ops_over xs

-- ---- the last maker of a leaf

-- no maker of the leaf stands at one of these nodes
abbrev pub NoneMakes : List Maker → ℕ → List ℕ → ℕ → Type 0
NoneMakes pairs leaves xs leaf = (x p : ℕ) → Contains xs x → IsMadeAt pairs leaves x p leaf → ⊥

-- Maker p is the last of its leaf where these nodes are left: it stands for the start of the body, and none of them makes
-- the leaf; or it stands at the last of them that does.
pub data IsLast (pairs : List Maker) (leaves : ℕ) (xs : List ℕ) (p : ℕ) : Type 0 where
  of_start : p < leaves → ((leaf : ℕ) → IsOf pairs p leaf → NoneMakes pairs leaves xs leaf) → IsLast pairs leaves xs p
  of_node : (before : List ℕ) (x : ℕ) (after : List ℕ) (leaf : ℕ) → xs ≡ before ++ x ∷ after
      → IsMadeAt pairs leaves x p leaf → NoneMakes pairs leaves after leaf → IsLast pairs leaves xs p

-- some trace of the tree comes to node v, and maker p is the last of its leaf on it
pub record IsLastOnTrace (t : Ops) (graph : Graph) (makers : Makers) (v p : ℕ) : Type 0 where
  pub left : List ℕ
  pub walk : GoesOver graph.nodes graph.entry left v
  pub trace : IsPrefix t (ops_over graph.nodes left)
  pub last : IsLast makers.pairs (length makers.leaves) left p
