-- The flow graph of an op tree: which nodes stand for it, and the walks over them.
use Rattle.std.specs.Prelude.{◌≡◌, ℕ, zero, suc, ◌≤◌, ◌⊎◌, List, [], ◌∷◌, ◌++◌, slice_get, Option, Some, None}
use Rattle.own_tree.specs.declared.graph.Node.{Node}
use Rattle.own_tree.specs.declared.op.Op.{Op}
use Rattle.own_tree.specs.declared.span.Span.{Span}
use Rattle.own_tree.specs.OpSource.{Ops, op, nothing, next, either, loop, catch, scope, break_at, continue_at, return_at, halt}
use Rattle.own_paths.specs.Traces.{Completion, goes_on, breaks, continues, returns, halts, cut, ends_at, IsTrace}

-- ---- nodes

-- neither an op nor an exit: a fork, the way back of a loop, the entry, or where nothing comes
abbrev pub plain : List ℕ → Node
plain ms = record { op = None; exit = None; next = ms }

abbrev pub doing : Op → ℕ → Node
doing o m = record { op = Some o; exit = None; next = m ∷ [] }

abbrev pub leaving : Span → Node
leaving s = record { op = None; exit = Some s; next = [] }

abbrev pub ops_at : Option Op → List Op
ops_at None = []
ops_at (Some o) = o ∷ []

-- node m may come next
abbrev pub IsNext : List ℕ → ℕ → Type 0
IsNext [] m = ⊥
IsNext (x ∷ xs) m = (m ≡ x) ⊎ IsNext xs m

-- ---- where the jumps of a tree lead

-- the scopes that a jump leaves before its target, the innermost first, by their bindings
pub record Way : Type 0 where
  pub pending : List (List ℕ)
  pub target : ℕ

-- those of `break` and `continue`, and the scopes that a `return` leaves
pub record Ways : Type 0 where
  pub breaking : Way
  pub continuing : Way
  pub returning : List (List ℕ)

abbrev pub ends_out : Span → List (List ℕ) → List Op
ends_out s [] = []
ends_out s (bs ∷ rest) = ends_at s bs ++ ends_out s rest

abbrev pub straight : ℕ → Way
straight m = record { pending = []; target = m }

abbrev pub in_way : List ℕ → Way → Way
in_way bs w = record { pending = bs ∷ w.pending; target = w.target }

abbrev pub within : List ℕ → Ways → Ways
within bs w = record {
  breaking = in_way bs w.breaking;
  continuing = in_way bs w.continuing;
  returning = bs ∷ w.returning;
}

-- a part of a loop: `break` leads on, `continue` to the next part
abbrev pub in_loop : Ways → ℕ → ℕ → Ways
in_loop w n m = record { breaking = straight n; continuing = straight m; returning = w.returning }

abbrev pub in_catch : Ways → ℕ → Ways
in_catch w n = record { breaking = straight n; continuing = w.continuing; returning = w.returning }

-- a whole tree: where it jumps out of no loop, nothing comes
abbrev pub no_ways : ℕ → Ways
no_ways dead = record { breaking = straight dead; continuing = straight dead; returning = [] }

-- Only nodes whose number is `least` or larger are spoken of.
module _ (least : ℕ) (nodes : List Node) where
  -- ---- which nodes stand for a tree, where node `n` comes next

  abbrev pub IsAt : ℕ → Node → Type 0
  IsAt e node = (least ≤ e) × (slice_get nodes e ≡ Some node)

  -- these ops, one after another
  abbrev pub Chain : List Op → ℕ → ℕ → Type 0
  Chain [] to e = e ≡ to
  Chain (o ∷ os) to e = (m : ℕ) × IsAt e (doing o m) × Chain os to m

  abbrev pub Jump : Span → Way → ℕ → Type 0
  Jump s w e = Chain (ends_out s w.pending) w.target e

  abbrev pub Leave : Span → List (List ℕ) → ℕ → Type 0
  Leave s pending e = (x : ℕ) × Chain (ends_out s pending) x e × IsAt x (leaving s)

  -- one node alone where both sides begin there
  abbrev pub Fork : ℕ → ℕ → ℕ → Type 0
  Fork first second e = ((e ≡ first) × (e ≡ second)) ⊎ IsAt e (plain (first ∷ second ∷ []))

  -- the tree begins at node `e`; a loop begins where its first part begins, and `back` leads there from its second
  abbrev pub Lays : Ops → Ways → ℕ → ℕ → Type 0
  Lays (op o) w n e = IsAt e (doing o n)
  Lays nothing w n e = e ≡ n
  Lays (next a b) w n e = (m : ℕ) × Lays b w n m × Lays a w m e
  Lays (either a b) w n e = (first : ℕ) × (second : ℕ) × Lays a w n first × Lays b w n second × Fork first second e
  Lays (loop a b) w n e =
      (back : ℕ) × (second : ℕ) × IsAt back (plain (e ∷ []))
      × Lays a (in_loop w n second) second e × Lays b (in_loop w n back) back second
  Lays (catch a) w n e = Lays a (in_catch w n) n e
  Lays (scope bs s a) w n e = (m : ℕ) × Chain (ends_at s bs) n m × Lays a (within bs w) m e
  Lays (break_at s) w n e = Jump s w.breaking e
  Lays (continue_at s) w n e = Jump s w.continuing e
  Lays (return_at s) w n e = Leave s w.returning e
  Lays halt w n e = IsAt e (plain [])

  -- ---- walks

  -- a walk of so many steps, and the ops of the nodes that it leaves
  abbrev pub Goes : ℕ → ℕ → List Op → ℕ → Type 0
  Goes zero u os v = (u ≡ v) × (os ≡ [])
  Goes (suc j) u os v =
      (n : Node) × (m : ℕ) × (rest : List Op) × (slice_get nodes u ≡ Some n) × IsNext n.next m
      × (os ≡ ops_at n.op ++ rest) × Goes j m rest v

  abbrev pub Walk : ℕ → List Op → ℕ → Type 0
  Walk u os v = (j : ℕ) × Goes j u os v

  -- where a completed trace of a tree leads
  abbrev pub Arrives : Ways → ℕ → Completion → ℕ → Type 0
  Arrives w n goes_on x = x ≡ n
  Arrives w n (breaks s) x = Jump s w.breaking x
  Arrives w n (continues s) x = Jump s w.continuing x
  Arrives w n (returns s) x = Leave s w.returning x
  Arrives w n halts x = IsAt x (plain [])
  Arrives w n cut x = ⊥

  -- ---- the graph of a whole tree

  -- the entry has no op; where a tree goes on, or jumps out of no loop, nothing comes
  pub record IsGraphOf (t : Ops) (entry : ℕ) : Type 0 where
    pub first : ℕ
    pub dead : ℕ
    pub begins : IsAt entry (plain (first ∷ []))
    pub stops : IsAt dead (plain [])
    pub lays : Lays t (no_ways dead) dead first

  -- a walk from the entry, with the op of its last node, and the exit there
  pub record IsWalk (entry : ℕ) (os : List Op) (exit : Option Span) : Type 0 where
    pub before : List Op
    pub at : ℕ
    pub node : Node
    pub walk : Walk entry before at
    pub there : slice_get nodes at ≡ Some node
    pub ops : os ≡ before ++ ops_at node.op
    pub exits : node.exit ≡ exit

-- ---- the law

-- the op list is a prefix of a trace, with some number of turns
abbrev pub IsPrefix : Ops → List Op → Type 0
IsPrefix t os = (k : ℕ) × (rest : List Op) × (c : Completion) × IsTrace k t (os ++ rest) c

-- The op lists of the walks from the entry are exactly the prefixes of the traces, and those of the walks that end at
-- an exit are exactly the traces that are completed by that return.
pub record WalksAreTraces (least : ℕ) (nodes : List Node) (t : Ops) (entry : ℕ) : Type 0 where
  pub sound : (os : List Op) (exit : Option Span) → IsWalk least nodes entry os exit → IsPrefix t os
  pub complete : (os : List Op) → IsPrefix t os → (exit : Option Span) × IsWalk least nodes entry os exit
  pub exit_sound : (os : List Op) (s : Span)
      → IsWalk least nodes entry os (Some s) → (k : ℕ) × IsTrace k t os (returns s)
  pub exit_complete : (os : List Op) (s : Span) (k : ℕ)
      → IsTrace k t os (returns s) → IsWalk least nodes entry os (Some s)
