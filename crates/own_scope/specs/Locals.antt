-- The names of a body, as the rules see them.
use Rattle.std.specs.Prelude.{◌≡◌, ℕ, List, [], ◌∷◌, Option, Some, None, Vec}
use Rattle.std.specs.Map.{lookup}
use Rattle.std.specs.Str.{bytes_eq}
use Rattle.own_judged.specs.Names.{Local, local_in, on_found}
use Rattle.own_scope.specs.declared.local.Bound.{Bound}
use Rattle.own_scope.specs.declared.local.Local.{Local as Held}

abbrev pub local_of : Held → Local
local_of l = record { name = l.name.now; binding = l.binding; ty = l.ty }

-- a name that a part of a text declares, where it declares one
abbrev pub declared_local : Option Held → List Local
declared_local None = []
declared_local (Some l) = local_of l ∷ []

-- a name that is bound so
abbrev pub named : List ℕ → Bound → Local
named name b = record { name = name; binding = b.binding; ty = b.ty }

-- names with what they are bound to last
abbrev pub Entries : Type 0 → Type 0
Entries Z = List (Vec ℕ Z × Bound)

abbrev pub entry_of : {Z : Type 0} → Entries Z → List ℕ → Option Bound
entry_of entries name = lookup (λ k. bytes_eq name k.items) entries

-- each name is bound as the last local of that name
abbrev pub HasLast : {Z : Type 0} → Entries Z → List Local → Type 0
HasLast entries locals = (name : List ℕ) → on_found (named name) (entry_of entries name) ≡ local_in locals name
