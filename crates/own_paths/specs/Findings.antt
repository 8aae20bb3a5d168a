-- What breaks a rule, and the findings of a program.
use Rattle.std.specs.Prelude.{◌≡◌, ℕ, ◌<◌, ◌⊎◌, ◌↔◌, IsTrue, Contains, List, [], ◌∷◌, ◌++◌, slice_get, Option, Some}
use Rattle.own_tree.specs.declared.finding.Finding.{Finding}
use Rattle.own_tree.specs.declared.finding.Rule.{Rule}
use Rattle.own_tree.specs.declared.finding.Rule.TheVariants as rule
use Rattle.own_tree.specs.declared.op.Op.{Op}
use Rattle.own_tree.specs.declared.op.OpKind.{OpKind}
use Rattle.own_tree.specs.declared.op.OpKind.TheVariants as kind
use Rattle.own_tree.specs.declared.place.Mode.{Mode}
use Rattle.own_tree.specs.declared.place.Mode.TheVariants as mode
use Rattle.own_tree.specs.declared.place.Place.{Place}
use Rattle.own_tree.specs.declared.span.Span.{Span}
use Rattle.own_tree.specs.TypedSource.{TBody, Program}
use Rattle.own_paths.specs.Fixed.{fixed_breaks}
use Rattle.own_paths.specs.Makers.{needs, Mark, made, ended, bare, BodyUses, tree_of, maker, uses_of}
use Rattle.own_shapes.specs.Places.{whole, covers, PlaceBefore}
use Rattle.own_paths.specs.Traces.{Completion, goes_on, returns, IsTrace}
use Rattle.own_shapes.specs.Types.{Types}

-- ---- order

abbrev pub SpanBefore : Span → Span → Type 0
SpanBefore a b = (a.start < b.start) ⊎ ((a.start ≡ b.start) × (a.end < b.end))

-- a span is at another or before it
abbrev pub IsNotAfter : Span → Span → Type 0
IsNotAfter a b = (a ≡ b) ⊎ SpanBefore a b

abbrev pub rule_number : Rule → ℕ
rule_number rule.O1 = 0
rule_number rule.O2 = 1
rule_number rule.O3 = 2
rule_number rule.O4 = 3
rule_number rule.O5 = 4
rule_number rule.O6 = 5
rule_number rule.O7 = 6
rule_number rule.O8 = 7
rule_number rule.O9 = 8
rule_number rule.O10 = 9
rule_number rule.O11 = 10
rule_number rule.F1 = 11

-- in order of span, then of rule, then of place
abbrev pub Precedes : Finding → Finding → Type 0
Precedes f g =
    SpanBefore f.span g.span
    ⊎ ((f.span ≡ g.span) × ((rule_number f.rule < rule_number g.rule) ⊎ ((f.rule ≡ g.rule) × PlaceBefore f.place g.place)))

abbrev pub Rising : List Finding → Type 0
Rising [] = Unit {0}
Rising (f ∷ []) = Unit {0}
Rising (f ∷ g ∷ fs) = Precedes f g × Rising (g ∷ fs)

-- ---- kinds of ops and bindings that the path rules name

-- a Consume or a Discard
abbrev pub IsGivenUp : OpKind → Type 0
IsGivenUp kind.Consume = Unit {0}
IsGivenUp kind.Discard = Unit {0}
IsGivenUp kind.Declare = ⊥
IsGivenUp kind.Make = ⊥
IsGivenUp kind.Read = ⊥
IsGivenUp kind.Borrow = ⊥
IsGivenUp kind.Inout = ⊥
IsGivenUp kind.Assign = ⊥
IsGivenUp kind.Capture = ⊥
IsGivenUp kind.End = ⊥

-- what the caller has back when the body returns
abbrev pub IsGivenBack : Option Mode → Type 0
IsGivenBack m = (m ≡ Some mode.Inout) ⊎ (m ≡ Some mode.SelfMutating)

-- ---- leaves at a return

-- not live, by this op
abbrev pub IsWithoutValue : Mark → Op → Type 0
IsWithoutValue m by = (m ≡ ended by) ⊎ (m ≡ bare by)

-- O3 speaks of what the caller has back, and O5 of what `init` gives out.
abbrev pub ReturnBreaks : Rule → Option Mode → Type 0
ReturnBreaks rule.O3 m = IsGivenBack m
ReturnBreaks rule.O5 m = m ≡ Some mode.SelfInit
ReturnBreaks rule.O1 m = ⊥
ReturnBreaks rule.O2 m = ⊥
ReturnBreaks rule.O4 m = ⊥
ReturnBreaks rule.O6 m = ⊥
ReturnBreaks rule.O7 m = ⊥
ReturnBreaks rule.O8 m = ⊥
ReturnBreaks rule.O9 m = ⊥
ReturnBreaks rule.O10 m = ⊥
ReturnBreaks rule.O11 m = ⊥
ReturnBreaks rule.F1 m = ⊥

-- of all leaves at a return the one with the cause of least position, and among equals the first leaf
abbrev pub IsFirstLeaf : Finding → Place → Span → Type 0
IsFirstLeaf f leaf cause = SpanBefore f.cause cause ⊎ ((f.cause ≡ cause) × ((f.place ≡ leaf) ⊎ PlaceBefore f.place leaf))

-- ---- O1, O2, O4 and O6: an op, and a leaf with its maker before the op

module _ (uses : BodyUses) where
  -- some trace comes to this op after these
  abbrev pub Reaches : List Op → Op → Type 0
  Reaches before o = (k : ℕ) × (after : List Op) × (end : Completion) × IsTrace k (tree_of uses) (before ++ o ∷ after) end

  -- what each rule says of an op and of a leaf whose maker is the mark, with the op that the mark names
  abbrev pub OpBreaks : Rule → Op → Place → Mark → Op → Type 0
  -- a needed leaf was consumed or discarded
  OpBreaks rule.O1 o leaf m by = IsTrue (needs o leaf) × (m ≡ ended by) × IsGivenUp by.kind
  -- a needed leaf was declared without a value
  OpBreaks rule.O2 o leaf m by = IsTrue (needs o leaf) × (m ≡ bare by)
  -- `self` ends with a value in a body that contains `discard self`
  OpBreaks rule.O4 o leaf m by =
      (o.kind ≡ kind.End) × (uses.mode_of o.place.binding ≡ Some mode.SelfConsuming) × IsTrue uses.discards
      × IsTrue (covers o.place leaf) × (m ≡ made by)
  -- a `let` property of `self` in `init` is assigned again
  OpBreaks rule.O6 o leaf m by =
      (o.kind ≡ kind.Assign) × IsTrue (uses.is_let_property o.place) × IsTrue (covers o.place leaf) × (m ≡ made by)
  OpBreaks rule.O3 o leaf m by = ⊥
  OpBreaks rule.O5 o leaf m by = ⊥
  OpBreaks rule.O7 o leaf m by = ⊥
  OpBreaks rule.O8 o leaf m by = ⊥
  OpBreaks rule.O9 o leaf m by = ⊥
  OpBreaks rule.O10 o leaf m by = ⊥
  OpBreaks rule.O11 o leaf m by = ⊥
  OpBreaks rule.F1 o leaf m by = ⊥

  -- in some trace an op with this span and place breaks the rule, and this is the cause
  pub record BreaksAtOp (which : Rule) (at : Span) (place : Place) (cause : Span) : Type 0 where
    pub before : List Op
    pub breaking : Op
    pub at_is : breaking.span ≡ at
    pub place_is : breaking.place ≡ place
    pub reached : Reaches before breaking
    pub leaf : Place
    pub is_leaf : Contains uses.leaves leaf
    pub by : Op
    pub breaks : OpBreaks which breaking leaf (maker uses leaf before) by
    pub cause_is : by.span ≡ cause

  -- ---- O3 and O5: a return, and a leaf without a value there

  -- some trace returns at this span after these ops
  abbrev pub Returns : List Op → Span → Type 0
  Returns os at = (k : ℕ) × IsTrace k (tree_of uses) os (returns at)

  pub record BreaksAtReturn (which : Rule) (at : Span) (leaf : Place) (cause : Span) : Type 0 where
    pub before : List Op
    pub returned : Returns before at
    pub is_leaf : Contains uses.leaves leaf
    pub owed : ReturnBreaks which (uses.mode_of leaf.binding)
    pub by : Op
    pub without : IsWithoutValue (maker uses leaf before) by
    pub cause_is : by.span ≡ cause

  -- ---- F1: the end of a body with a result is reached

  abbrev pub FallsOff : Type 0
  FallsOff = (k : ℕ) × (os : List Op) × IsTrace k uses.inner os goes_on

  -- ---- the findings of the path rules

  -- the one with the cause of least position
  pub record IsLeastCause (f : Finding) : Type 0 where
    pub breaks : BreaksAtOp f.rule f.span f.place f.cause
    pub least : (cause : Span) → BreaksAtOp f.rule f.span f.place cause → IsNotAfter f.cause cause

  pub record IsLeastLeaf (f : Finding) : Type 0 where
    pub breaks : BreaksAtReturn f.rule f.span f.place f.cause
    pub least : (leaf : Place) (cause : Span) → BreaksAtReturn f.rule f.span leaf cause → IsFirstLeaf f leaf cause

  -- it stands at the closing brace, which is its own cause, and names no place
  pub record IsFallOff (f : Finding) : Type 0 where
    pub result : IsTrue uses.has_result
    pub falls : FallsOff
    pub span_is : f.span ≡ uses.close
    pub cause_is : f.cause ≡ uses.close
    pub place_is : f.place ≡ whole 0

  abbrev pub IsPathFindingBy : Rule → Finding → Type 0
  IsPathFindingBy rule.O1 f = IsLeastCause f
  IsPathFindingBy rule.O2 f = IsLeastCause f
  IsPathFindingBy rule.O3 f = IsLeastLeaf f
  IsPathFindingBy rule.O4 f = IsLeastCause f
  IsPathFindingBy rule.O5 f = IsLeastLeaf f
  IsPathFindingBy rule.O6 f = IsLeastCause f
  IsPathFindingBy rule.F1 f = IsFallOff f
  IsPathFindingBy rule.O7 f = ⊥
  IsPathFindingBy rule.O8 f = ⊥
  IsPathFindingBy rule.O9 f = ⊥
  IsPathFindingBy rule.O10 f = ⊥
  IsPathFindingBy rule.O11 f = ⊥

  abbrev pub IsPathFinding : Finding → Type 0
  IsPathFinding f = IsPathFindingBy f.rule f

-- ---- the findings of the fixed rules

abbrev pub IsSameBreak : Finding → Finding → Type 0
IsSameBreak f g = (f.rule ≡ g.rule) × (f.span ≡ g.span) × (f.place ≡ g.place)

-- one of these breaks, with the cause of least position
pub record IsLeastOf (breaks : List Finding) (f : Finding) : Type 0 where
  pub is_one : Contains breaks f
  pub least : (g : Finding) → Contains breaks g → IsSameBreak f g → IsNotAfter f.cause g.cause

-- ---- the findings of a program

module _ (types : Types) (program : Program) where
  abbrev pub IsFixedFinding : ℕ → TBody → Finding → Type 0
  IsFixedFinding k body f = IsLeastOf (fixed_breaks types program k body) f

  abbrev pub IsBodyFinding : ℕ → TBody → Finding → Type 0
  IsBodyFinding k body f = IsPathFinding (uses_of types program k body) f ⊎ IsFixedFinding k body f

  abbrev pub IsFinding : Finding → Type 0
  IsFinding f = (k : ℕ) × (body : TBody) × (slice_get program.bodies k ≡ Some body) × IsBodyFinding k body f

-- all that are of this kind, in order
pub record AreAll (Is : Finding → Type 0) (fs : List Finding) : Type 0 where
  pub all : (f : Finding) → Contains fs f ↔ Is f
  pub rising : Rising fs

-- the findings of the path rules in a body, those of the fixed rules, and those of a program
abbrev pub ArePathFindings : BodyUses → List Finding → Type 0
ArePathFindings uses fs = AreAll (IsPathFinding uses) fs

abbrev pub AreFixedFindings : Types → Program → ℕ → TBody → List Finding → Type 0
AreFixedFindings types program k body fs = AreAll (IsFixedFinding types program k body) fs

abbrev pub AreFindings : Types → Program → List Finding → Type 0
AreFindings types program fs = AreAll (IsFinding types program) fs

-- no way and no single use breaks a rule
abbrev pub IsSound : Types → Program → Type 0
IsSound types program = AreFindings types program []
