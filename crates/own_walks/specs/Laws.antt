-- What is proved of the graph of an op tree and of the makers that reach its nodes, for contracts to cite.
use Rattle.std.specs.Prelude.{◌≡◌, ℕ, ◌<◌, ◌↔◌, List, length, slice_get, Some}
use Rattle.own_tree.specs.declared.finding.Rule.{Rule}
use Rattle.own_tree.specs.declared.graph.Maker.{Maker}
use Rattle.own_tree.specs.declared.graph.Node.{Node}
use Rattle.own_tree.specs.declared.op.Op.{Op}
use Rattle.own_tree.specs.declared.place.Place.{Place}
use Rattle.own_tree.specs.declared.span.Span.{Span}
use Rattle.own_tree.specs.OpSource.{Ops}
use Rattle.own_paths.specs.Findings.{BreaksAtOp, BreaksAtReturn, FallsOff}
use Rattle.own_paths.specs.Makers.{BodyUses, Mark, tree_of}
use Rattle.own_walks.specs.AtNodes.{Comes, BreaksAtNode, BreaksAtExit}
use Rattle.own_walks.specs.Building.{graph_of}
use Rattle.own_walks.specs.Graphs.{IsGraphOf, Walk, WalksAreTraces}
use Rattle.own_walks.specs.Pairs.{AreMakers, IsMark, BelongTo, pairs_of}
use Rattle.own_walks.specs.Reaching.{IsOf, Reaches, EdgesLeadToNodes}

-- ---- graphs

-- what the function makes of a tree is a graph of it, in which each edge leads to a node
pub record GraphsAreExact : Type 0 where
  pub is_graph : (t : Ops) → IsGraphOf 0 (graph_of t).nodes t (graph_of t).entry
  pub entry : (t : Ops) → (graph_of t).entry < length (graph_of t).nodes
  pub edges : (t : Ops) → EdgesLeadToNodes (graph_of t).nodes

abbrev pub WalksAreTracesOfTrees : Type 0
WalksAreTracesOfTrees =
    (nodes : List Node) (t : Ops) (entry : ℕ) → IsGraphOf 0 nodes t entry → WalksAreTraces 0 nodes t entry

-- ---- path rules

-- what breaks a path rule at an op breaks it at a node
abbrev pub BreaksAreAtNodes : Type 0
BreaksAreAtNodes =
    (uses : BodyUses) (nodes : List Node) (entry : ℕ) → IsGraphOf 0 nodes (tree_of uses) entry
    → (r : Rule) (at : Span) (place : Place) (cause : Span)
    → BreaksAtOp uses r at place cause ↔ BreaksAtNode uses 0 nodes entry r at place cause

-- and at a return it breaks it at an exit
abbrev pub BreaksAreAtExits : Type 0
BreaksAreAtExits =
    (uses : BodyUses) (nodes : List Node) (entry : ℕ) → IsGraphOf 0 nodes (tree_of uses) entry
    → (r : Rule) (at : Span) (leaf : Place) (cause : Span)
    → BreaksAtReturn uses r at leaf cause ↔ BreaksAtExit uses 0 nodes entry r at leaf cause

-- a body falls off its end where a walk comes to node 1
abbrev pub FallsAreAtOne : Type 0
FallsAreAtOne =
    (uses : BodyUses)
    → FallsOff uses ↔ ((os : List Op) × Walk 0 (graph_of (tree_of uses)).nodes (graph_of (tree_of uses)).entry os 1)

-- ---- makers

-- the pairs of the function are the makers, and belong to the graph and the leaves
pub record PairsAreMakers : Type 0 where
  pub makers : (uses : BodyUses) (nodes : List Node) (entry : ℕ)
      → AreMakers uses nodes entry (pairs_of uses nodes entry)
  pub belong : (uses : BodyUses) (nodes : List Node) (entry : ℕ) → entry < length nodes
      → BelongTo (length nodes) (length uses.leaves) (pairs_of uses nodes entry)

-- a leaf comes to a node with a mark exactly where a maker that says so reaches the node
abbrev pub MarksAreMakers : Type 0
MarksAreMakers =
    (uses : BodyUses) (nodes : List Node) (entry : ℕ) (pairs : List Maker) → AreMakers uses nodes entry pairs
    → (v l : ℕ) (leaf : Place) (m : Mark) → slice_get uses.leaves l ≡ Some leaf
    → Comes uses 0 nodes entry v leaf m
    ↔ ((p : ℕ) × Reaches pairs (length uses.leaves) nodes entry v p × IsOf pairs p l × IsMark uses nodes pairs p m)
