-- What is proved of these definitions, for contracts to cite.
use Rattle.std.specs.Prelude.{◌≡◌, ℕ, ◌≤◌, ◌⊎◌, true, false, Contains, IsTrue, List, ◌++◌, slice_get, Some}
use Rattle.own_tree.specs.declared.finding.Finding.{Finding}
use Rattle.own_tree.specs.declared.finding.Rule.{Rule}
use Rattle.own_tree.specs.declared.span.Span.{Span}
use Rattle.own_tree.specs.declared.graph.LeafFact.{LeafFact}
use Rattle.own_tree.specs.declared.op.Op.{Op}
use Rattle.own_tree.specs.declared.place.Binding.{Binding}
use Rattle.own_tree.specs.declared.place.Place.{Place}
use Rattle.own_tree.specs.OpSource.{Ops, next}
use Rattle.own_tree.specs.TypedSource.{TBody, Program}
use Rattle.own_tree.specs.declared.graph.LeafFact.TheVariants as fact
use Rattle.own_tree.specs.declared.limits.TheConstants.{MOST_BODY_SLOTS, MOST_BODY_OPS, MOST_BODY_LEAVES, MOST_BODY_MAKERS, MOST_OPS}
use Rattle.own_paths.specs.BodyLimits.{over_M9, over_M10, over_M11, over_M12, over_M13}
use Rattle.own_paths.specs.Facts.{IsFact, Destroys, IsAmbiguous}
use Rattle.own_shapes.specs.Counts.{IsExceeded}
use Rattle.own_paths.specs.Findings.{Precedes, IsSameBreak, BreaksAtOp, BreaksAtReturn, FallsOff, IsBodyFinding, ArePathFindings, AreFixedFindings, AreFindings, IsSound}
use Rattle.own_shapes.specs.Laws.{IsOrder}
use Rattle.own_paths.specs.Fixed.{binding_leaves, breaks_O8, place_of, fixed_breaks}
use Rattle.own_paths.specs.Makers.{BodyUses, uses_of}
use Rattle.own_paths.specs.Ops.{has_result}
use Rattle.own_shapes.specs.Places.{covers}
use Rattle.own_paths.specs.Traces.{Completion, goes_on, breaks, continues, returns, halts, cut, IsTrace}
use Rattle.own_shapes.specs.Types.{Types}

-- ---- orders

-- two findings that are not in order have one rule, one span and one place
abbrev pub FindingsAreOrdered : Type 0
FindingsAreOrdered = IsOrder Precedes IsSameBreak

-- ---- leaves

-- a Consume of a part of a leaf has no leaf at its place or below it
abbrev pub PartsOfLeavesHaveNone : Type 0
PartsOfLeavesHaveNone =
    (types : Types) (k : ℕ) (b : Binding) (o : Op) (leaf : List ℕ) → IsTrue (breaks_O8 types k b o) → Contains (binding_leaves types b) leaf
    → covers o.place (place_of o.place.binding leaf) ≡ false

-- ---- findings

-- what breaks one rule at one span and one place of a body has one cause
abbrev pub FindingsHaveOneCause : Type 0
FindingsHaveOneCause =
    (types : Types) (program : Program) (k : ℕ) (body : TBody) (f g : Finding)
    → IsBodyFinding types program k body f → IsBodyFinding types program k body g → IsSameBreak f g → f ≡ g

-- a program has one list of findings
abbrev pub FindingsAreOneList : Type 0
FindingsAreOneList =
    (types : Types) (program : Program) (fs gs : List Finding) → AreFindings types program fs → AreFindings types program gs
    → fs ≡ gs

-- so has a body, of the path rules and of the fixed rules
abbrev pub PathFindingsAreOneList : Type 0
PathFindingsAreOneList = (uses : BodyUses) (fs gs : List Finding) → ArePathFindings uses fs → ArePathFindings uses gs → fs ≡ gs

abbrev pub FixedFindingsAreOneList : Type 0
FixedFindingsAreOneList =
    (types : Types) (program : Program) (k : ℕ) (body : TBody) (fs gs : List Finding)
    → AreFixedFindings types program k body fs → AreFixedFindings types program k body gs → fs ≡ gs

-- no rule is broken in a body: on no way, at no return, and by no single use
pub record BreaksNothing (types : Types) (program : Program) (k : ℕ) (body : TBody) : Type 0 where
  pub at_op : (r : Rule) (at : Span) (place : Place) (cause : Span) → BreaksAtOp (uses_of types program k body) r at place cause → ⊥
  pub at_return : (r : Rule) (at : Span) (leaf : Place) (cause : Span) → BreaksAtReturn (uses_of types program k body) r at leaf cause → ⊥
  pub falls : has_result body.result ≡ true → FallsOff (uses_of types program k body) → ⊥
  pub fixed : (f : Finding) → Contains (fixed_breaks types program k body) f → ⊥

-- A program without findings breaks no rule: where one is broken, there is a break with a least cause.
abbrev pub SoundBreaksNothing : Type 0
SoundBreaksNothing =
    (types : Types) (program : Program) → IsSound types program → (k : ℕ) (body : TBody) → slice_get program.bodies k ≡ Some body
    → BreaksNothing types program k body

-- ---- facts

-- a leaf has one fact before an op
abbrev pub LeavesHaveOneFact : Type 0
LeavesHaveOneFact = (uses : BodyUses) (o : Op) (leaf : Place) (f g : LeafFact) → IsFact uses o leaf f → IsFact uses o leaf g → f ≡ g

-- ---- traces

-- a run that is not cut
abbrev pub IsWhole : Completion → Type 0
IsWhole goes_on = Unit {0}
IsWhole (breaks s) = Unit {0}
IsWhole (continues s) = Unit {0}
IsWhole (returns s) = Unit {0}
IsWhole halts = Unit {0}
IsWhole cut = ⊥

-- with more turns each trace that is not cut stays one
abbrev pub TracesStay : Type 0
TracesStay = (j k : ℕ) → j ≤ k → (t : Ops) (os : List Op) (c : Completion) → IsWhole c → IsTrace j t os c → IsTrace k t os c

-- and each that is cut goes on
abbrev pub TracesGoOn : Type 0
TracesGoOn =
    (j k : ℕ) → j ≤ k → (t : Ops) (os : List Op) → IsTrace j t os cut
    → (more : List Op) × (c : Completion) × IsTrace k t (os ++ more) c

abbrev pub TracesExist : Type 0
TracesExist = (k : ℕ) (t : Ops) → (os : List Op) × (c : Completion) × IsTrace k t os c

-- a trace of two parts that goes on is one of each that goes on
abbrev pub TracesSplit : Type 0
TracesSplit =
    (k : ℕ) (a b : Ops) (os : List Op) → IsTrace k (next a b) os goes_on
    → (xs : List Op) × (ys : List Op) × IsTrace k a xs goes_on × IsTrace k b ys goes_on × (os ≡ xs ++ ys)

-- a leaf that each op that destroys it finds with a value on all ways, or on none, is not ambiguous
abbrev pub SettledLeavesAreNotAmbiguous : Type 0
SettledLeavesAreNotAmbiguous =
    (types : Types) (program : Program) (k : ℕ) (body : TBody) (leaf : Place)
    → ((o : Op) → Destroys types program o leaf → IsFact (uses_of types program k body) o leaf fact.Always ⊎ IsFact (uses_of types program k body) o leaf fact.Never)
    → IsAmbiguous types program k body leaf → ⊥

-- ---- limits

-- what is named as over a limit of bodies has a larger count
pub record BodyLimitsAreExceeded : Type 0 where
  pub body_slots : (types : Types) (program : Program) (k : ℕ) (body : TBody) → IsExceeded MOST_BODY_SLOTS (over_M9 types program k body)
  pub body_ops : (types : Types) (program : Program) (k : ℕ) (body : TBody) → IsExceeded MOST_BODY_OPS (over_M10 types program k body)
  pub body_leaves : (types : Types) (program : Program) (k : ℕ) (body : TBody) → IsExceeded MOST_BODY_LEAVES (over_M11 types program k body)
  pub body_makers : (types : Types) (program : Program) (k : ℕ) (body : TBody) → IsExceeded MOST_BODY_MAKERS (over_M12 types program k body)
  pub ops : (types : Types) (program : Program) → IsExceeded MOST_OPS (over_M13 types program)
