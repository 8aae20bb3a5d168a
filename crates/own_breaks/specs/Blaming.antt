-- What breaks the path rules at the nodes of a graph, by the makers that reach these.
use Rattle.std.specs.Prelude.{◌≡◌, ℕ, ◌⊎◌, ◌↔◌, Bool, false, IsTrue, if◌then◌else◌, List, [], length, slice_get, slice_index_or, Option, Some, None}
use Rattle.own_tree.specs.declared.finding.Finding.{Finding}
use Rattle.own_tree.specs.declared.finding.Rule.{Rule}
use Rattle.own_tree.specs.declared.graph.Maker.{Maker}
use Rattle.own_tree.specs.declared.graph.Node.{Node}
use Rattle.own_tree.specs.declared.op.Op.{Op}
use Rattle.own_tree.specs.declared.place.Mode.{Mode}
use Rattle.own_tree.specs.declared.place.Place.{Place}
use Rattle.own_tree.specs.declared.span.Span.{Span}
use Rattle.own_paths.specs.Makers.{BodyUses, tree_of}
use Rattle.own_walks.specs.Graphs.{IsGraphOf}
use Rattle.own_walks.specs.Pairs.{AreMakers}
use Rattle.own_walks.specs.Reaching.{Reaches}
use Rattle.own_breaks.specs.Asking.{blames, asks, owes}

-- the span of an op, where it breaks the rule
abbrev pub blamed : Rule → Option Op → Option Span
blamed r None = None
blamed r (Some by) = if blames r by.kind then Some by.span else None

abbrev pub op_of : Option Node → Option Op
op_of None = None
op_of (Some n) = n.op

-- the span of the op of a maker, where it breaks the rule
abbrev pub cause_of : List Node → Rule → Maker → Option Span
cause_of nodes r q = blamed r (op_of (slice_get nodes q.node))

-- the maker reaches the node, by the facts of a body
abbrev pub reaches : List (List Bool) → ℕ → ℕ → Bool
reaches facts u p = slice_index_or (slice_index_or facts u []) p false

module _ (nodes : List Node) (pairs : List Maker) (facts : List (List Bool)) where
  -- a maker of leaf number l that breaks the rule reaches node u, and this is its span
  abbrev pub IsCause : Rule → ℕ → ℕ → Span → Type 0
  IsCause r u l cause =
      (p : ℕ) × (q : Maker) × (slice_get pairs p ≡ Some q) × (q.leaf ≡ l) × IsTrue (reaches facts u p)
      × (cause_of nodes r q ≡ Some cause)

  module _ (leaves : List Place) (discards : Bool) (mode_of : ℕ → Option Mode) (is_let_property : Place → Bool) where
    -- the op of node u breaks the rule of the finding, at its span and its place and with its cause
    pub record BreaksHere (u : ℕ) (o : Op) (f : Finding) : Type 0 where
      pub span_is : f.span ≡ o.span
      pub place_is : f.place ≡ o.place
      pub number : ℕ
      pub leaf : Place
      pub is_leaf : slice_get leaves number ≡ Some leaf
      pub asked : IsTrue (asks discards mode_of is_let_property f.rule o leaf)
      pub cause : IsCause f.rule u number f.cause

    -- the return of node u breaks it, with this leaf
    pub record LacksHere (u : ℕ) (at : Span) (f : Finding) : Type 0 where
      pub span_is : f.span ≡ at
      pub number : ℕ
      pub is_leaf : slice_get leaves number ≡ Some f.place
      pub owed : IsTrue (owes f.rule (mode_of f.place.binding))
      pub cause : IsCause f.rule u number f.cause

    abbrev pub BreaksAt : ℕ → Node → Finding → Type 0
    BreaksAt u n f =
        ((o : Op) × (n.op ≡ Some o) × BreaksHere u o f) ⊎ ((at : Span) × (n.exit ≡ Some at) × LacksHere u at f)

    -- at some node of the graph
    abbrev pub BreaksSomewhere : Finding → Type 0
    BreaksSomewhere f = (u : ℕ) × (n : Node) × (slice_get nodes u ≡ Some n) × BreaksAt u n f

-- the graph, the makers and the facts of a body
pub record AreOfBody (uses : BodyUses) (nodes : List Node) (entry : ℕ) (pairs : List Maker)
    (facts : List (List Bool)) : Type 0 where
  pub graph : IsGraphOf 0 nodes (tree_of uses) entry
  pub makers : AreMakers uses nodes entry pairs
  pub has : (u p : ℕ) → IsTrue (reaches facts u p) ↔ Reaches pairs (length uses.leaves) nodes entry u p
