-- One round over the edges of a graph.
use Rattle.std.specs.Prelude.{◌≡◌, ℕ, ◌≤◌, ◌⊎◌, ◌↔◌, true, false, Bool, List, length}
use Rattle.own_tree.specs.declared.graph.Graph.{Graph}
use Rattle.own_tree.specs.declared.graph.Maker.{Maker}
use Rattle.own_tree.specs.declared.graph.Makers.{Makers}
use Rattle.own_tree.specs.declared.graph.Node.{Node}
use Rattle.own_walks.specs.Reaching.{IsOf, IsMadeAt, Becomes, IsEdge}
use Rattle.own_flow.specs.Facts.{IsFactAt}
use Rattle.own_flow.specs.Flow.{HasAt}
use Rattle.own_flow.specs.Words.{Has}

-- ---- as contracts see it

module _ (graph : Graph) (makers : Makers) where
  -- behind node u, which maker m reaches, m' is the last of its leaf, and an edge leads on to node v
  abbrev pub Gives : ℕ → ℕ → ℕ → ℕ → Type 0
  Gives u m v m' = IsEdge graph.nodes u v × Becomes makers.pairs (length makers.leaves) u m m'

  -- no edge would add a fact
  abbrev pub AreClosed : List (List Bool) → Type 0
  AreClosed facts = (u m v m' : ℕ) → IsFactAt facts u m → Gives u m v m' → IsFactAt facts v m'

  pub record IsRound (facts facts' : List (List Bool)) (grown : Bool) : Type 0 where
    pub keeps : (u m : ℕ) → IsFactAt facts u m → IsFactAt facts' u m
    -- each fact from which an edge gives one has given it
    pub given : (u m v m' : ℕ) → IsFactAt facts u m → Gives u m v m' → IsFactAt facts' v m'
    -- what is new was given by an edge from a fact
    pub only : (v m' : ℕ) → IsFactAt facts' v m'
        → IsFactAt facts v m' ⊎ ((u : ℕ) × (m : ℕ) × IsFactAt facts' u m × Gives u m v m')
    pub closed : (grown ≡ false) ↔ AreClosed facts
    pub none : grown ≡ false → facts' ≡ facts
    pub some : grown ≡ true → (v : ℕ) × (m' : ℕ) × IsFactAt facts' v m' × ¬ (IsFactAt facts v m')

-- ---- as the loop over the nodes keeps it, from the last node down to node `from`

pub record RoundsTo (pairs : List Maker) (leaves : ℕ) (nodes : List Node) (from : ℕ) (rows rows' : List (List ℕ))
    (grown : Bool) : Type 0 where
  pub grows : (u m : ℕ) → HasAt rows u m → HasAt rows' u m
  pub given : (u m v m' : ℕ) → from ≤ u → HasAt rows u m → IsEdge nodes u v → Becomes pairs leaves u m m'
      → HasAt rows' v m'
  pub only : (v m' : ℕ) → HasAt rows' v m'
      → HasAt rows v m' ⊎ ((u : ℕ) × (m : ℕ) × HasAt rows' u m × IsEdge nodes u v × Becomes pairs leaves u m m')
  pub none : grown ≡ false → rows' ≡ rows
  pub some : grown ≡ true → (v : ℕ) × (m' : ℕ) × HasAt rows' v m' × ¬ (HasAt rows v m')
  pub closed : ((u m v m' : ℕ) → HasAt rows u m → IsEdge nodes u v → Becomes pairs leaves u m m' → HasAt rows v m')
      → grown ≡ false

-- ---- what a row gives behind its node, by the pairs themselves

-- without the makers of the leaves that the node makes
abbrev pub IsLeft : List Maker → ℕ → ℕ → List ℕ → ℕ → Type 0
IsLeft pairs leaves u row m = Has row m × ((p leaf : ℕ) → IsMadeAt pairs leaves u p leaf → IsOf pairs m leaf → ⊥)

-- a maker at the node, which some maker of its leaf reaches
abbrev pub IsAdded : List Maker → ℕ → ℕ → List ℕ → ℕ → Type 0
IsAdded pairs leaves u row m = (leaf : ℕ) × IsMadeAt pairs leaves u m leaf × (i : ℕ) × Has row i × IsOf pairs i leaf
