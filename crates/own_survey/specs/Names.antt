-- The declared types of a text by their names.
use Rattle.std.specs.Prelude.{◌≡◌, ℕ, suc, List, [], ◌∷◌, Option, Some, None, if◌then◌else◌, codes}
use Rattle.std.specs.Borrow.{Bor}
use Rattle.std.specs.Map.{lookup}
use Rattle.std.specs.Option.{option_or}
use Rattle.std.specs.Str.{bytes_eq}
use Rattle.own_tree.specs.declared.place.Ty.{Ty}
use Rattle.own_tree.specs.declared.place.Ty.TheVariants as type
use Rattle.own_survey.specs.declared.names.NamedType.{NamedType}
use Rattle.own_survey.specs.declared.names.TypeNames.{TypeNames}
use Rattle.own_survey.specs.declared.survey.Written.{Written}
use Rattle.own_survey.specs.declared.survey.Written.TheVariants as written
use Rattle.own_shapes.specs.Types.{Declared}

-- the first type of that name, of types before which so many are declared
abbrev pub first_named : ℕ → List Declared → List ℕ → Option NamedType
first_named before [] name = None
first_named before (d ∷ ds) name =
    if bytes_eq name d.name.text then Some (record { number = before; noncopyable = d.noncopyable })
    else first_named (suc before) ds name

-- names with their types, in order of declaration
abbrev pub Entries : Type 0
Entries = List (Bor (List ℕ) × NamedType)

abbrev pub entry_of : Entries → List ℕ → Option NamedType
entry_of entries name = lookup (λ k. bytes_eq name k.now) entries

-- of equal names the first counts
abbrev pub Knows : Entries → List Declared → Type 0
Knows entries ds = (name : List ℕ) → entry_of entries name ≡ first_named 0 ds name

-- with one more name
abbrev pub AddsName : Entries → Entries → List ℕ → NamedType → Type 0
AddsName old new name named = (wanted : List ℕ) →
    entry_of new wanted ≡ option_or (entry_of old wanted) (if bytes_eq wanted name then Some named else None)

-- with the names of more types, before which so many are declared
abbrev pub Adds : Entries → Entries → ℕ → List Declared → Type 0
Adds old new before ds = (wanted : List ℕ) →
    entry_of new wanted ≡ option_or (entry_of old wanted) (first_named before ds wanted)

-- ---- what a name names

abbrev pub written_by : Option NamedType → Written
written_by None = written.Unknown
written_by (Some named) = if named.noncopyable then written.Noncopyable else written.Copyable

abbrev pub written_in : TypeNames → List ℕ → Written
written_in names name =
    if bytes_eq name (codes "Int") then written.Copyable
    else if bytes_eq name (codes "Bool") then written.Copyable
    else written_by (entry_of names.types.entries name)

abbrev pub type_by : Option NamedType → Ty
type_by None = type.Unit
type_by (Some named) = type.Named named.number

abbrev pub type_in : TypeNames → List ℕ → Ty
type_in names name =
    if bytes_eq name (codes "Int") then type.Int
    else if bytes_eq name (codes "Bool") then type.Bool
    else type_by (entry_of names.types.entries name)
