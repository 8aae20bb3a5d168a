-- What a worklist over rows of bits keeps: one row for each node, with a bit for each maker that reaches it.
use Rattle.std.specs.Prelude.{◌≡◌, ◌≢◌, ℕ, ◌+◌, ◌/◌, ◌<◌, ◌⊎◌, ◌↔◌, true, false, Contains, List, [], ◌∷◌, length, slice_get, slice_index_or, Some, Bool}
use Rattle.own_tree.specs.declared.graph.Maker.{Maker}
use Rattle.own_tree.specs.declared.graph.Node.{Node}
use Rattle.own_walks.specs.Reaching.{IsOf, IsMadeAt, Becomes, IsEdge, Reaches, EdgesLeadToNodes}
use Rattle.own_flow.specs.declared.made.Made.{Made}
use Rattle.own_flow.specs.Words.{Has, room}

-- ---- rows of bits, one for each node

abbrev pub HasAt : List (List ℕ) → ℕ → ℕ → Type 0
HasAt rows u m = Has (slice_index_or rows u []) m

-- how far the rows are from being full
unfoldable pub total : List (List ℕ) → ℕ
total [] = 0
total (r ∷ rs) = room r + total rs

-- what a row gives behind its node
abbrev pub Passed : List Maker → ℕ → ℕ → List ℕ → List ℕ → Type 0
Passed pairs leaves u row out = (m' : ℕ) → Has out m' ↔ ((m : ℕ) × Has row m × Becomes pairs leaves u m m')

-- the node waits to be visited
abbrev pub IsWaiting : List Bool → ℕ → Type 0
IsWaiting waiting u = slice_get waiting u ≡ Some true

-- what is given to nodes, of which those that gain wait
pub record Spreads (out next : List ℕ) (rows rows' : List (List ℕ)) (waiting waiting' : List Bool) : Type 0 where
  pub grows : (x m : ℕ) → HasAt rows x m → HasAt rows' x m
  pub given : (x m : ℕ) → Contains next x → Has out m → HasAt rows' x m
  pub only : (x m : ℕ) → HasAt rows' x m → HasAt rows x m ⊎ (Contains next x × Has out m)
  pub kept : (x : ℕ) → IsWaiting waiting' x ⊎ ((m : ℕ) → HasAt rows' x m → HasAt rows x m)
  pub stays : (x : ℕ) → IsWaiting waiting x → IsWaiting waiting' x

-- whether something was gained
pub record Gains (grown : Bool) (rows rows' : List (List ℕ)) (waiting waiting' : List Bool) : Type 0 where
  pub none : grown ≡ false → (waiting' ≡ waiting) × (rows' ≡ rows)
  pub some : grown ≡ true → total rows' < total rows
  pub new : grown ≡ true → (x : ℕ) × (m : ℕ) × HasAt rows' x m × ¬ (HasAt rows x m)

-- so many rows and marks, and each row of so many words
pub record Sized (count words : ℕ) (rows : List (List ℕ)) (waiting : List Bool) : Type 0 where
  pub count_is : length rows ≡ count
  pub marks_are : length waiting ≡ count
  pub each : (u : ℕ) → u < count → length (slice_index_or rows u []) ≡ words

-- at this node each edge has given what its row gives
abbrev pub IsSettledAt : List Maker → ℕ → List Node → List (List ℕ) → ℕ → Type 0
IsSettledAt pairs leaves nodes rows u =
    (m m' v : ℕ) → HasAt rows u m → Becomes pairs leaves u m m' → IsEdge nodes u v → HasAt rows v m'

-- each bit is one that a walk gives, and each edge that misses bits begins at a node that waits
pub record Flows (pairs : List Maker) (leaves : ℕ) (nodes : List Node) (entry : ℕ) (rows : List (List ℕ))
    (waiting : List Bool) : Type 0 where
  pub sound : (u m : ℕ) → HasAt rows u m → Reaches pairs leaves nodes entry u m
  pub begun : (m : ℕ) → m < leaves → HasAt rows entry m
  pub closed : (u : ℕ) → IsWaiting waiting u ⊎ IsSettledAt pairs leaves nodes rows u

-- ---- what a row gives behind its node, by masks

-- the makers of a leaf, as bits
abbrev pub mask_of : List (List ℕ) → ℕ → List ℕ
mask_of masks leaf = slice_index_or masks leaf []

-- the two lists have a bit in common
abbrev pub Meet : List ℕ → List ℕ → Type 0
Meet a b = (i : ℕ) × Has a i × Has b i

abbrev pub IsKept : List ℕ → List Made → List (List ℕ) → ℕ → Type 0
IsKept row made masks m = Has row m × ((x : Made) → Contains made x → ¬ (Has (mask_of masks x.leaf) m))

abbrev pub IsNew : List ℕ → List Made → List (List ℕ) → ℕ → Type 0
IsNew row made masks m = (x : Made) × Contains made x × (m ≡ x.maker) × Meet row (mask_of masks x.leaf)

abbrev pub Behind : List ℕ → List Made → List (List ℕ) → List ℕ → Type 0
Behind row made masks out = (m : ℕ) → Has out m ↔ (IsKept row made masks m ⊎ IsNew row made masks m)

-- the makers of each node, and the masks, are those of the pairs
pub record AreTables (pairs : List Maker) (leaves : ℕ) (at : ℕ → List Made) (masks : List (List ℕ)) : Type 0 where
  pub starts : (m : ℕ) → m < leaves → (leaf : ℕ) × IsOf pairs m leaf
  pub mask : (leaf m : ℕ) → Has (mask_of masks leaf) m ↔ IsOf pairs m leaf
  pub made : (u : ℕ) (x : Made) → Contains (at u) x → IsMadeAt pairs leaves u x.maker x.leaf
  pub all : (u p leaf : ℕ) → IsMadeAt pairs leaves u p leaf
      → (x : Made) × Contains (at u) x × (x.maker ≡ p) × (x.leaf ≡ leaf)

-- masks as long as rows, and makers within them
pub record Fits (words : ℕ) (made : List Made) (masks : List (List ℕ)) : Type 0 where
  pub long : (l : ℕ) → l < length masks → length (mask_of masks l) ≡ words
  pub leaf : (x : Made) → Contains made x → x.leaf < length masks
  pub maker : (x : Made) → Contains made x → x.maker / 64 < words

-- the makers of each node
abbrev pub made_at : List (List Made) → ℕ → List Made
made_at at u = slice_index_or at u []

-- the tables of a graph: lists of makers for each node, masks that fit, and edges that lead to nodes
pub record AreWhole (nodes : List Node) (at : List (List Made)) (masks : List (List ℕ)) (words : ℕ) : Type 0 where
  pub as_many : length at ≡ length nodes
  pub fits : (u : ℕ) → Fits words (made_at at u) masks
  pub edges : EdgesLeadToNodes nodes

-- where bits are what walks give so far, they are so after it
abbrev pub KeepsFlows : List Node → List (List Made) → List (List ℕ) → List (List ℕ) → List (List ℕ)
    → List Bool → List Bool → Type 0
KeepsFlows nodes at masks rows rows' waiting waiting' =
    (pairs : List Maker) (leaves entry : ℕ) → AreTables pairs leaves (made_at at) masks
    → Flows pairs leaves nodes entry rows waiting → Flows pairs leaves nodes entry rows' waiting'

-- after the visit of a node that gave nothing, the same nodes wait but for this one
pub record Turns (grown : Bool) (u : ℕ) (rows rows' : List (List ℕ)) (waiting waiting' : List Bool) : Type 0 where
  pub none : grown ≡ false → (rows' ≡ rows) × ((x : ℕ) → IsWaiting waiting' x → IsWaiting waiting x × (x ≢ u))
  pub some : grown ≡ true → total rows' < total rows

-- From bits that are what walks give so far, those that are exactly what walks give.
abbrev pub Settles : List Node → List (List Made) → List (List ℕ) → List (List ℕ) → List (List ℕ) → List Bool → Type 0
Settles nodes at masks rows rows' waiting =
    (pairs : List Maker) (leaves entry : ℕ) → AreTables pairs leaves (made_at at) masks
    → Flows pairs leaves nodes entry rows waiting
    → (u m : ℕ) → HasAt rows' u m ↔ Reaches pairs leaves nodes entry u m
