-- The makers of the leaves of a body: pairs of a node and a leaf that its op makes, ends or declares.
use Rattle.std.specs.Prelude.{◌≡◌, ℕ, suc, ◌<◌, ◌≤◌, Bool, true, false, not, ◌&&◌, if◌then◌else◌, List, [], ◌∷◌, ◌++◌, length, slice_get, Option, Some, None}
use Rattle.own_tree.specs.declared.graph.Maker.{Maker}
use Rattle.own_tree.specs.declared.graph.Node.{Node}
use Rattle.own_tree.specs.declared.op.Op.{Op}
use Rattle.own_tree.specs.declared.place.Place.{Place}
use Rattle.own_paths.specs.BodyLimits.{is_maker}
use Rattle.own_paths.specs.Makers.{BodyUses, Mark, fresh, marked, is_live}
use Rattle.own_shapes.specs.Places.{covers}

-- the op makes, ends or declares the leaf
abbrev pub makes : BodyUses → Op → Place → Bool
makes uses o leaf = (covers o.place leaf && not (uses.ends_nothing o)) && is_maker o.kind

-- the leaf has a value after the op
abbrev pub lives_by : Op → Bool
lives_by o = is_live (marked o.kind o fresh)

-- ---- the list of pairs

-- one for each leaf from number l on, at the entry
abbrev pub starts_from : ℕ → ℕ → List Place → List Maker
starts_from entry l [] = []
starts_from entry l (leaf ∷ leaves) = record { node = entry; leaf = l; live = false } ∷ starts_from entry (suc l) leaves

-- those of an op at node u, with each of the leaves from number l on at its place or below it
abbrev pub covered_pairs : ℕ → Op → ℕ → List Place → List Maker
covered_pairs u o l [] = []
covered_pairs u o l (leaf ∷ leaves) =
    if covers o.place leaf then record { node = u; leaf = l; live = lives_by o } ∷ covered_pairs u o (suc l) leaves
    else covered_pairs u o (suc l) leaves

-- in a body of these leaves, in which some ops end nothing
module _ (ends_nothing : Op → Bool) (leaves : List Place) where
  abbrev pub node_pairs : ℕ → Option Op → List Maker
  node_pairs u None = []
  node_pairs u (Some o) = if is_maker o.kind && not (ends_nothing o) then covered_pairs u o 0 leaves else []

  -- those of the nodes from number u on
  abbrev pub pairs_from : ℕ → List Node → List Maker
  pairs_from u [] = []
  pairs_from u (n ∷ nodes) = node_pairs u n.op ++ pairs_from (suc u) nodes

abbrev pub pairs_of : BodyUses → List Node → ℕ → List Maker
pairs_of uses nodes entry = starts_from entry 0 uses.leaves ++ pairs_from uses.ends_nothing uses.leaves 0 nodes

-- ---- what such a list is good for

-- a maker of this leaf: the op of its node makes, ends or declares it
pub record IsMaker (uses : BodyUses) (nodes : List Node) (q : Maker) (leaf : Place) : Type 0 where
  pub node : Node
  pub there : slice_get nodes q.node ≡ Some node
  pub op : Op
  pub op_is : node.op ≡ Some op
  pub leaf_at : slice_get uses.leaves q.leaf ≡ Some leaf
  pub makes : makes uses op leaf ≡ true
  pub live : q.live ≡ lives_by op

-- pair number p is of this node and leaf
abbrev pub IsPair : List Maker → ℕ → ℕ → ℕ → Type 0
IsPair pairs p u l = (q : Maker) × (slice_get pairs p ≡ Some q) × (q.node ≡ u) × (q.leaf ≡ l)

-- first one pair for each leaf, at the entry, and then one for each node and leaf that its op makes, ends or declares
pub record AreMakers (uses : BodyUses) (nodes : List Node) (entry : ℕ) (pairs : List Maker) : Type 0 where
  pub starts : (l : ℕ) → l < length uses.leaves → IsPair pairs l entry l
  pub sound : (p : ℕ) (q : Maker) → length uses.leaves ≤ p → slice_get pairs p ≡ Some q
      → (leaf : Place) × IsMaker uses nodes q leaf
  pub complete : (u : ℕ) (node : Node) (o : Op) (l : ℕ) (leaf : Place) → slice_get nodes u ≡ Some node
      → node.op ≡ Some o → slice_get uses.leaves l ≡ Some leaf → makes uses o leaf ≡ true
      → (p : ℕ) × (length uses.leaves ≤ p) × IsPair pairs p u l

-- what a pair says of its leaf
pub data IsMark (uses : BodyUses) (nodes : List Node) (pairs : List Maker) (p : ℕ) (m : Mark) : Type 0 where
  at_start : p < length uses.leaves → m ≡ fresh → IsMark uses nodes pairs p m
  at_node : (q : Maker) (node : Node) (o : Op) → length uses.leaves ≤ p → slice_get pairs p ≡ Some q
      → slice_get nodes q.node ≡ Some node → node.op ≡ Some o → m ≡ marked o.kind o fresh → IsMark uses nodes pairs p m

-- each pair is of a node and a leaf, and the first ones stand for the leaves in order
pub record BelongTo (nodes leaves : ℕ) (pairs : List Maker) : Type 0 where
  pub starts : (l : ℕ) → l < leaves → (q : Maker) × (slice_get pairs l ≡ Some q) × (q.leaf ≡ l)
  pub node : (p : ℕ) (q : Maker) → slice_get pairs p ≡ Some q → q.node < nodes
  pub leaf : (p : ℕ) (q : Maker) → slice_get pairs p ≡ Some q → q.leaf < leaves
