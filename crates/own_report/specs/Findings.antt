-- The lines of findings.
use Rattle.std.specs.Prelude.{ℕ, List, [], ◌∷◌, ◌++◌, slice_get, Option, Some, None, codes}
use Rattle.own_tree.specs.declared.finding.Finding.{Finding}
use Rattle.own_tree.specs.declared.place.Binding.{Binding}
use Rattle.own_tree.specs.declared.place.Place.{Place}
use Rattle.own_tree.specs.declared.place.Ty.{Ty}
use Rattle.own_tree.specs.TypedSource.{Program}
use Rattle.own_shapes.specs.declared.info.FieldInfo.{FieldInfo}
use Rattle.own_shapes.specs.Types.{Types}
use Rattle.own_report.specs.Place.{place_at}
use Rattle.own_report.specs.Lines.{head_at, place_pair, line_of}
use Rattle.own_report.specs.Rules.{rule_code, rule_text}

-- a property after a dot
abbrev pub property_text : FieldInfo → List ℕ
property_text f = codes "." ++ f.name

abbrev pub way_on : (Ty → List ℕ) → Option FieldInfo → List ℕ
way_on others None = []
way_on others (Some f) = property_text f ++ others f.ty

-- the properties on a way from a type on
abbrev pub way_text : Types → Ty → (fields : List ℕ) → List ℕ
way_text types ty [] = []
way_text types ty (k ∷ ks) = way_on (λ t. way_text types t ks) (slice_get (types.properties ty) k)

abbrev pub name_text : Option Binding → List ℕ
name_text None = []
name_text (Some b) = b.name

abbrev pub way_of : Types → Option Binding → (fields : List ℕ) → List ℕ
way_of types None fields = []
way_of types (Some b) fields = way_text types b.ty fields

-- the name of a binding, and with it the properties of a place
abbrev pub binding_text : List Binding → ℕ → List ℕ
binding_text bindings k = name_text (slice_get bindings k)

abbrev pub place_text : Types → List Binding → Place → List ℕ
place_text types bindings place =
    binding_text bindings place.binding ++ way_of types (slice_get bindings place.binding) place.fields

-- a finding, in a line of its own
abbrev pub finding_line : (file text : List ℕ) → Types → List Binding → Finding → List ℕ
finding_line file text types bindings f =
    head_at file (place_at text f.span.start) (rule_code f.rule)
    ++ rule_text f.rule (place_text types bindings f.place) (binding_text bindings f.place.binding) (place_pair (place_at text f.cause.start))
    ++ line_of []

-- findings in their order, each in its line
abbrev pub lines_of : (file text : List ℕ) → Types → List Binding → List Finding → List ℕ
lines_of file text types bindings [] = []
lines_of file text types bindings (f ∷ fs) = finding_line file text types bindings f ++ lines_of file text types bindings fs

abbrev pub finding_lines : (file text : List ℕ) → Types → Program → List Finding → List ℕ
finding_lines file text types program findings = lines_of file text types program.bindings findings
