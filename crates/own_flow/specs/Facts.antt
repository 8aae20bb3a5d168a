-- Facts as contracts see them: for each node one truth value for each maker.
use Rattle.std.specs.Prelude.{◌≡◌, ℕ, ◌+◌, ◌/◌, ◌<◌, ◌↔◌, true, Bool, List, [], length, map, slice_get, slice_index_or, Some}
use Rattle.own_tree.specs.declared.graph.Graph.{Graph}
use Rattle.own_tree.specs.declared.graph.Makers.{Makers}
use Rattle.own_walks.specs.Pairs.{BelongTo}
use Rattle.own_walks.specs.Reaching.{Reaches, EdgesLeadToNodes}
use Rattle.own_flow.specs.Flow.{HasAt, Sized}
use Rattle.own_flow.specs.Words.{truths}

-- the maker reaches the node
abbrev pub IsFactAt : List (List Bool) → ℕ → ℕ → Type 0
IsFactAt facts u m = slice_get (slice_index_or facts u []) m ≡ Some true

-- as many rows as nodes, and in each as many values as makers
pub record IsSizedFor (nodes makers : ℕ) (facts : List (List Bool)) : Type 0 where
  pub rows : length facts ≡ nodes
  pub each : (u : ℕ) → u < nodes → length (slice_index_or facts u []) ≡ makers

-- What is so of a graph and the makers of a body: edges lead to nodes, the entry is one, and makers are of nodes and of
-- leaves.
pub record AreJoined (graph : Graph) (makers : Makers) : Type 0 where
  pub edges : EdgesLeadToNodes graph.nodes
  pub entry : graph.entry < length graph.nodes
  pub belong : BelongTo (length graph.nodes) (length makers.leaves) makers.pairs

-- each value says whether some walk from the entry comes to the node with that maker as the last of its leaf
pub record AreFactsOf (graph : Graph) (makers : Makers) (facts : List (List Bool)) : Type 0 where
  pub sized : IsSizedFor (length graph.nodes) (length makers.pairs) facts
  pub has : (u m : ℕ) → IsFactAt facts u m ↔ Reaches makers.pairs (length makers.leaves) graph.nodes graph.entry u m

-- ---- as rows of bits

-- the words that hold a bit for each maker
abbrev pub words_for : ℕ → ℕ
words_for makers = makers / 64 + 1

-- rows of so many words, in which no bit past the last maker is set
pub record AreRows (makers : ℕ) (rows : List (List ℕ)) (waiting : List Bool) : Type 0 where
  pub sized : Sized (length rows) (words_for makers) rows waiting
  pub within : (u m : ℕ) → HasAt rows u m → m < makers

abbrev pub facts_in : ℕ → List (List ℕ) → List (List Bool)
facts_in makers rows = map (truths makers) rows
