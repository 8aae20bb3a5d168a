-- The judgements of the type table, T01 to T08: which one is false of a part of a text, and what a walk over the parts
-- notes of them.
use Rattle.std.specs.Prelude.{◌≡◌, ℕ, ◌+◌, ◌-◌, ◌^◌, min, Bool, true, false, not, ◌&&◌, if◌then◌else◌, List, [], ◌∷◌, ◌++◌, Contains, nat_lt, nat_eq, Option, Some, None, is_some, codes}
use Rattle.std.specs.List.{list_any}
use Rattle.std.specs.Str.{bytes_eq}
use Rattle.own_tree.specs.declared.limits.TheConstants.{MOST_BODIES, MOST_PARAMETERS}
use Rattle.own_tree.specs.declared.span.Span.{Span}
use Rattle.own_tree.specs.declared.tree.MethodMode.{MethodMode}
use Rattle.own_tree.specs.declared.tree.MethodMode.TheVariants as method_mode
use Rattle.own_tree.specs.declared.tree.Name.{Name}
use Rattle.own_tree.specs.declared.tree.PassingMode.{PassingMode}
use Rattle.own_tree.specs.declared.tree.PassingMode.TheVariants as passing_mode
use Rattle.own_tree.specs.Source.{File}
use Rattle.own_survey.specs.declared.survey.Fault.{Fault}
use Rattle.own_survey.specs.declared.survey.Judgement.{Judgement}
use Rattle.own_survey.specs.declared.survey.Judgement.TheVariants as judgement
use Rattle.own_survey.specs.declared.survey.Survey.{Survey}
use Rattle.own_survey.specs.declared.survey.Written.{Written}
use Rattle.own_survey.specs.declared.survey.Written.TheVariants as written
use Rattle.own_survey.specs.Parts.{Part, a_body, a_case, a_print, a_type, a_scope, a_content, a_lifetime, a_parameter, a_method, a_top, a_main, no_main, word_of, file_parts}
use Rattle.own_shapes.specs.Types.{Declared, declared_types}

abbrev pub code_of : Judgement → ℕ
code_of judgement.KnownType = 1
code_of judgement.DifferentNames = 2
code_of judgement.FiniteType = 3
code_of judgement.CopyableParts = 4
code_of judgement.Lifetime = 5
code_of judgement.ParameterModifier = 6
code_of judgement.MethodModifier = 7
code_of judgement.TopNames = 8

-- ---- what a name names

-- the first type of that name
abbrev pub declared_as_written : List Declared → List ℕ → Written
declared_as_written [] name = written.Unknown
declared_as_written (d ∷ ds) name = if bytes_eq name d.name.text then (if d.noncopyable then written.Noncopyable else written.Copyable) else declared_as_written ds name

abbrev pub written_name : List Declared → List ℕ → Written
written_name ds name =
    if bytes_eq name (codes "Int") then written.Copyable
    else if bytes_eq name (codes "Bool") then written.Copyable
    else declared_as_written ds name

-- ---- the judgement that is false of a part, and where

abbrev pub fault : Judgement → Span → Option Fault
fault j at = Some (record { judgement = j; at = at })

abbrev pub type_fault : Written → Span → Option Fault
type_fault written.Unknown at = fault judgement.KnownType at
type_fault written.Copyable at = None
type_fault written.Noncopyable at = None

-- the first name that stood before it
abbrev pub repeated_after : List Name → List Name → Option Span
repeated_after before [] = None
repeated_after before (n ∷ ns) = if list_any (λ b. bytes_eq n.text b.text) before then Some n.span else repeated_after (before ++ n ∷ []) ns

abbrev pub repeated : List Name → Option Span
repeated ns = repeated_after [] ns

abbrev pub at_fault : Judgement → Option Span → Option Fault
at_fault j None = None
at_fault j (Some at) = fault j at

abbrev pub content_fault : Bool → Written → Span → Option Fault
content_fault true w at = None
content_fault false written.Unknown at = None
content_fault false written.Copyable at = None
content_fault false written.Noncopyable at = fault judgement.CopyableParts at

-- at a place where a judgement does not hold
abbrev pub fault_unless : Bool → Judgement → Span → Option Fault
fault_unless true j at = None
fault_unless false j at = fault j at

-- SE-0390: a noncopyable parameter says how it is passed. A name that names no type is neither.
abbrev pub parameter_fault : Option PassingMode → Written → Span → Option Fault
parameter_fault None written.Unknown at = None
parameter_fault None written.Copyable at = None
parameter_fault None written.Noncopyable at = fault judgement.ParameterModifier at
parameter_fault (Some passing_mode.Inout) w at = None
parameter_fault (Some passing_mode.Borrowing) written.Unknown at = None
parameter_fault (Some passing_mode.Borrowing) written.Copyable at = fault judgement.ParameterModifier at
parameter_fault (Some passing_mode.Borrowing) written.Noncopyable at = None
parameter_fault (Some passing_mode.Consuming) written.Unknown at = None
parameter_fault (Some passing_mode.Consuming) written.Copyable at = fault judgement.ParameterModifier at
parameter_fault (Some passing_mode.Consuming) written.Noncopyable at = None

-- at the modifier, which the method begins with
abbrev pub method_fault : Bool → Span → Option MethodMode → Option Fault
method_fault true s mode = None
method_fault false s None = None
method_fault false s (Some method_mode.Mutating) = None
method_fault false s (Some method_mode.Borrowing) = fault judgement.MethodModifier (word_of 9 s)
method_fault false s (Some method_mode.Consuming) = fault judgement.MethodModifier (word_of 9 s)

abbrev pub RESERVED : List (List ℕ)
RESERVED = codes "Int" ∷ codes "Bool" ∷ codes "Void" ∷ codes "Copyable" ∷ codes "print" ∷ codes "readInt" ∷ []

abbrev pub is_reserved : List ℕ → Bool
is_reserved name = list_any (λ r. bytes_eq name r) RESERVED

abbrev pub fault_of : (List ℕ → Written) → Part → Option Fault
fault_of w (a_body at n) = None
fault_of w (a_case at n) = None
fault_of w (a_print at n) = None
fault_of w (a_type n) = type_fault (w n.text) n.span
fault_of w (a_scope ns) = at_fault judgement.DifferentNames (repeated ns)
fault_of w (a_content noncopyable n) = content_fault noncopyable (w n.text) n.span
fault_of w (a_lifetime allowed at) = fault_unless allowed judgement.Lifetime at
fault_of w (a_parameter s mode n) = parameter_fault mode (w n.text) s
fault_of w (a_method noncopyable s mode) = method_fault noncopyable s mode
fault_of w (a_top n) = fault_unless (not (is_reserved n.text)) judgement.TopNames n.span
fault_of w (a_main plain at) = fault_unless plain judgement.TopNames at
fault_of w (no_main at) = fault judgement.TopNames at

-- ---- what a walk notes

abbrev pub nothing : Survey
nothing = record { bodies = 0; extra_body = None; taken = None; fault = None }

abbrev pub earlier : Option Fault → Option Fault → Option Fault
earlier None second = second
earlier (Some a) None = Some a
earlier (Some a) (Some b) = Some (if nat_lt b.at.start a.at.start then b else a)

abbrev pub with_body : Survey → Span → Survey
with_body s at = record s { bodies = min (s.bodies + 1) (2 ^ 64 - 1); extra_body = if nat_eq s.bodies MOST_BODIES then Some at else s.extra_body }

abbrev pub with_taken : Survey → ℕ → Span → Survey
with_taken s n at = record s { taken = if not (is_some s.taken) && nat_lt MOST_PARAMETERS n then Some (record { count = n; at = at }) else s.taken }

abbrev pub with_fault : Survey → Option Fault → Survey
with_fault s f = record s { fault = earlier s.fault f }

abbrev pub note : (List ℕ → Written) → Survey → Part → Survey
note w s (a_body at n) = with_taken (with_body s at) n at
note w s (a_case at n) = with_taken s n at
note w s (a_print at n) = with_taken s n at
note w s (a_type n) = with_fault s (type_fault (w n.text) n.span)
note w s (a_scope ns) = with_fault s (at_fault judgement.DifferentNames (repeated ns))
note w s (a_content noncopyable n) = with_fault s (content_fault noncopyable (w n.text) n.span)
note w s (a_lifetime allowed at) = with_fault s (fault_unless allowed judgement.Lifetime at)
note w s (a_parameter s' mode n) = with_fault s (parameter_fault mode (w n.text) s')
note w s (a_method noncopyable s' mode) = with_fault s (method_fault noncopyable s' mode)
note w s (a_top n) = with_fault s (fault_unless (not (is_reserved n.text)) judgement.TopNames n.span)
note w s (a_main plain at) = with_fault s (fault_unless plain judgement.TopNames at)
note w s (no_main at) = with_fault s (fault judgement.TopNames at)

abbrev pub notes : (List ℕ → Written) → Survey → List Part → Survey
notes w s [] = s
notes w s (p ∷ ps) = notes w (note w s p) ps

-- ---- the judgements of a text

-- A judgement but T03 is false at a place.
abbrev pub IsFalseOf : File → Fault → Type 0
IsFalseOf file f = (p : Part) × Contains (file_parts file) p × (fault_of (written_name (declared_types file.declarations)) p ≡ Some f)
