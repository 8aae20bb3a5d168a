-- What the path rules ask of a body, as the code goes by it.
use Rattle.std.specs.Prelude.{◌≡◌, ℕ, ◌≤◌, ◌^◌, ◌↔◌, Bool, IsTrue, Contains, if◌then◌else◌, List, [], length, slice_get, slice_index_or, Option, Some, None}
use Rattle.std.specs.List.Sorted.{IsNonDecreasingBy}
use Rattle.std.specs.Ordering.{is_lt}
use Rattle.own_tree.specs.declared.finding.Finding.{Finding}
use Rattle.own_tree.specs.declared.finding.Rule.{Rule}
use Rattle.own_tree.specs.declared.op.Op.{Op}
use Rattle.own_tree.specs.declared.place.Binding.{Binding}
use Rattle.own_tree.specs.declared.place.Mode.{Mode}
use Rattle.own_tree.specs.declared.place.Place.{Place}
use Rattle.own_tree.specs.declared.span.Span.{Span}
use Rattle.own_paths.specs.Findings.{IsNotAfter}
use Rattle.own_paths.specs.Makers.{mode_at, names_let_property}
use Rattle.own_shapes.specs.Types.{Types}
use Rattle.own_table.specs.Table.{types_in}
use Rattle.own_leaves.specs.Bindings.{AreTyped}
use Rattle.own_walks.specs.Reaching.{IsOf}
use Rattle.own_flow.specs.Facts.{IsSizedFor}
use Rattle.own_breaks.specs.Asking.{asks, owes}
use Rattle.own_breaks.specs.Blaming.{IsCause, BreaksHere, LacksHere, BreaksSomewhere}
use Rattle.own_breaks.specs.Settling.{span_cmp}
use Rattle.own_rules.specs.declared.body.Body.{Body}

-- ---- causes

-- the one of less position
abbrev pub earlier : Option Span → Option Span → Option Span
earlier None b = b
earlier (Some a) None = Some a
earlier (Some a) (Some b) = if is_lt (span_cmp b a) then Some b else Some a

-- the least of such spans, where there is one
abbrev pub IsLeast : (Span → Type 0) → Option Span → Type 0
IsLeast Is None = (s : Span) → Is s → ⊥
IsLeast Is (Some least) = Is least × ((s : Span) → Is s → IsNotAfter least s)

-- ---- a body

abbrev pub mode_in : List Binding → ℕ → Option Mode
mode_in bindings x = mode_at (slice_get bindings x)

abbrev pub let_in : Types → List Binding → Place → Bool
let_in types bindings p = names_let_property types (slice_get bindings p.binding) p.fields

abbrev pub makers_of : List (List ℕ) → ℕ → List ℕ
makers_of lists l = slice_index_or lists l []

-- its parts fit each other
pub record IsWhole (b : Body) : Type 0 where
  pub typed : AreTyped b.table.now b.bindings.now
  pub sized : IsSizedFor (length b.nodes.now) (length b.pairs.now) b.facts.now
  pub few_nodes : length b.nodes.now ≤ 2 ^ 32
  pub sorted : IsNonDecreasingBy (λ leaf. leaf.binding) b.leaves.now
  pub lists : length b.by_leaf.now ≡ length b.leaves.now
  pub of_leaf : (l p : ℕ) → Contains (makers_of b.by_leaf.now l) p ↔ IsOf b.pairs.now p l

module _ (b : Body) where
  abbrev pub asked_by : Rule → Op → Place → Bool
  asked_by r o leaf = asks b.discards (mode_in b.bindings.now) (let_in (types_in b.table.now) b.bindings.now) r o leaf

  abbrev pub CauseIn : Rule → ℕ → ℕ → Span → Type 0
  CauseIn r u l cause = IsCause b.nodes.now b.pairs.now b.facts.now r u l cause

  -- with leaf number l the op of node u breaks the rule, or its return does
  pub record IsBreakWith (r : Rule) (u : ℕ) (o : Op) (l : ℕ) (f : Finding) : Type 0 where
    pub rule_is : f.rule ≡ r
    pub span_is : f.span ≡ o.span
    pub place_is : f.place ≡ o.place
    pub leaf : Place
    pub is_leaf : slice_get b.leaves.now l ≡ Some leaf
    pub asked : IsTrue (asked_by r o leaf)
    pub cause : CauseIn r u l f.cause

  pub record IsLackWith (r : Rule) (u : ℕ) (at : Span) (l : ℕ) (f : Finding) : Type 0 where
    pub rule_is : f.rule ≡ r
    pub span_is : f.span ≡ at
    pub is_leaf : slice_get b.leaves.now l ≡ Some f.place
    pub owed : IsTrue (owes r (mode_in b.bindings.now f.place.binding))
    pub cause : CauseIn r u l f.cause

  -- with some leaf
  abbrev pub BreaksOf : Rule → ℕ → Op → Finding → Type 0
  BreaksOf r u o f = (l : ℕ) × IsBreakWith r u o l f

  abbrev pub LacksOf : Rule → ℕ → Span → Finding → Type 0
  LacksOf r u at f = (l : ℕ) × IsLackWith r u at l f

  -- by any rule, at the op or the return that the node has
  abbrev pub OpBreaks : ℕ → Option Op → Finding → Type 0
  OpBreaks u op f =
      (o : Op) × (op ≡ Some o)
      × BreaksHere b.nodes.now b.pairs.now b.facts.now b.leaves.now b.discards (mode_in b.bindings.now)
      (let_in (types_in b.table.now) b.bindings.now) u o f

  abbrev pub ExitBreaks : ℕ → Option Span → Finding → Type 0
  ExitBreaks u exit f =
      (at : Span) × (exit ≡ Some at)
      × LacksHere b.nodes.now b.pairs.now b.facts.now b.leaves.now b.discards (mode_in b.bindings.now)
      (let_in (types_in b.table.now) b.bindings.now) u at f

  -- at some node
  abbrev pub BreaksIn : Finding → Type 0
  BreaksIn f =
      BreaksSomewhere b.nodes.now b.pairs.now b.facts.now b.leaves.now b.discards (mode_in b.bindings.now)
      (let_in (types_in b.table.now) b.bindings.now) f
