-- Which texts have a table of types, and why others have none: the limits M4 to M8 and the judgements of the type table.
use Rattle.std.specs.Prelude.{◌≡◌, ℕ, suc, ◌⊎◌, slice_get, Option, Some, None}
use Rattle.own_tree.specs.declared.refusal.LimitKind.{LimitKind}
use Rattle.own_tree.specs.declared.refusal.LimitKind.TheVariants as limit
use Rattle.own_tree.specs.declared.span.Span.{Span}
use Rattle.own_tree.specs.Source.{File}
use Rattle.own_table.specs.declared.error.TableError.{TableError}
use Rattle.own_table.specs.declared.error.TableError.TheVariants as refused
use Rattle.own_shapes.specs.declared.counted.Counted.{Counted}
use Rattle.own_survey.specs.declared.survey.Fault.{Fault}
use Rattle.own_survey.specs.declared.survey.Judgement.TheVariants as judgement
use Rattle.own_survey.specs.declared.survey.Survey.{Survey}
use Rattle.own_survey.specs.Judgements.{code_of, IsFalseOf}
use Rattle.own_shapes.specs.Counts.{counted}
use Rattle.own_survey.specs.Limits.{type_names, over_M4, over_M5, over_M6, over_M7, over_M8}
use Rattle.own_shapes.specs.Types.{declared_types, resolved_types, types_of, ContainsIn}

-- T03 is false of a type, at its name.
pub record IsCircular (file : File) (f : Fault) : Type 0 where
  pub number : ℕ
  pub steps : ℕ
  pub contains_itself : ContainsIn (resolved_types (declared_types file.declarations)) (suc steps) number number
  pub named : slice_get (type_names (declared_types file.declarations)) number ≡ Some f.at
  pub is_third : f.judgement ≡ judgement.FiniteType

-- A judgement of the type table, T01 to T08, is false at a place.
abbrev pub IsFalse : File → Fault → Type 0
IsFalse file f = IsFalseOf file f ⊎ IsCircular file f

-- ---- the limits that are tested before the judgements

abbrev pub or_limit : LimitKind → Option Counted → Option (LimitKind × Counted) → Option (LimitKind × Counted)
or_limit which None later = later
or_limit which (Some c) later = Some (which, c)

-- the first of them that is passed, in the order M4, M5, M7, M6
abbrev pub first_limit : File → Option (LimitKind × Counted)
first_limit file =
    or_limit limit.Types (over_M4 file) (or_limit limit.Fields (over_M5 file) (or_limit limit.Parameters (over_M7 file) (or_limit limit.Bodies (over_M6 file) None)))

-- ---- texts

-- None of these limits is passed, and the judgements hold.
pub record IsJudged (file : File) : Type 0 where
  pub within : first_limit file ≡ None
  pub holds : (f : Fault) → IsFalse file f → ⊥

-- and so is M8
pub record HasTable (file : File) : Type 0 where
  pub judged : IsJudged file
  pub small : over_M8 (types_of file) file ≡ None

-- M8, which is tested last
pub record IsTooLarge (file : File) (which : LimitKind) (count : ℕ) (at : Span) : Type 0 where
  pub judged : IsJudged file
  pub last : which ≡ limit.TypeSlots
  pub over : over_M8 (types_of file) file ≡ Some (counted count at)

-- A judgement is false, and its code and its place are these.
pub record IsMisjudged (file : File) (code : ℕ) (at : Span) : Type 0 where
  pub within : first_limit file ≡ None
  pub fault : Fault
  pub is_false : IsFalse file fault
  pub coded : code_of fault.judgement ≡ code
  pub placed : fault.at ≡ at

abbrev pub IsRefused : File → TableError → Type 0
IsRefused file (refused.Limit which count at) = (first_limit file ≡ Some (which, counted count at)) ⊎ IsTooLarge file which count at
IsRefused file (refused.BadType code at) = IsMisjudged file code at
IsRefused file refused.Memory = Unit {0}

-- A text that has a table is refused for want of memory alone.
abbrev pub TablesAreExact : Type 0
TablesAreExact = (file : File) → HasTable file → (e : TableError) → IsRefused file e → e ≡ refused.Memory

-- ---- on the way there

-- what the walk over a text says of M5, M7 and M6
abbrev pub extra_body : Survey → Option Counted
extra_body found = elim found.extra_body [ None ↦ None | Some at ↦ Some (counted found.bodies at) ]

abbrev pub limit_found : Option Counted → Survey → Option (LimitKind × Counted)
limit_found parts found = or_limit limit.Fields parts (or_limit limit.Parameters found.taken (or_limit limit.Bodies (extra_body found) None))

-- None of these limits is passed, and the judgements but T03 hold.
pub record IsSurveyed (file : File) : Type 0 where
  pub within : first_limit file ≡ None
  pub holds : (f : Fault) → IsFalseOf file f → ⊥
