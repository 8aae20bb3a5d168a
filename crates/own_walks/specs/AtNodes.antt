-- What breaks the path rules of a body, said of the nodes of its graph.
use Rattle.std.specs.Prelude.{◌≡◌, ℕ, Contains, List, slice_get, Some}
use Rattle.own_tree.specs.declared.finding.Rule.{Rule}
use Rattle.own_tree.specs.declared.graph.Node.{Node}
use Rattle.own_tree.specs.declared.op.Op.{Op}
use Rattle.own_tree.specs.declared.place.Place.{Place}
use Rattle.own_tree.specs.declared.span.Span.{Span}
use Rattle.own_paths.specs.Findings.{OpBreaks, ReturnBreaks, IsWithoutValue}
use Rattle.own_paths.specs.Makers.{BodyUses, Mark, maker}
use Rattle.own_walks.specs.Graphs.{Walk}

module _ (uses : BodyUses) (least : ℕ) (nodes : List Node) (entry : ℕ) where
  -- some walk comes to the node with this maker of the leaf
  abbrev pub Comes : ℕ → Place → Mark → Type 0
  Comes v leaf m = (before : List Op) × Walk least nodes entry before v × (maker uses leaf before ≡ m)

  pub record BreaksAtNode (which : Rule) (at : Span) (place : Place) (cause : Span) : Type 0 where
    pub node_at : ℕ
    pub node : Node
    pub there : slice_get nodes node_at ≡ Some node
    pub breaking : Op
    pub op_is : node.op ≡ Some breaking
    pub at_is : breaking.span ≡ at
    pub place_is : breaking.place ≡ place
    pub leaf : Place
    pub is_leaf : Contains uses.leaves leaf
    pub mark : Mark
    pub comes : Comes node_at leaf mark
    pub by : Op
    pub breaks : OpBreaks uses which breaking leaf mark by
    pub cause_is : by.span ≡ cause

  pub record BreaksAtExit (which : Rule) (at : Span) (leaf : Place) (cause : Span) : Type 0 where
    pub node_at : ℕ
    pub node : Node
    pub there : slice_get nodes node_at ≡ Some node
    pub exits : node.exit ≡ Some at
    pub is_leaf : Contains uses.leaves leaf
    pub owed : ReturnBreaks which (uses.mode_of leaf.binding)
    pub mark : Mark
    pub comes : Comes node_at leaf mark
    pub by : Op
    pub without : IsWithoutValue mark by
    pub cause_is : by.span ≡ cause
