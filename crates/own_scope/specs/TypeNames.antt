-- The names of the declared types of a text, in order.
use Rattle.std.specs.Prelude.{ℕ, suc, List, [], ◌∷◌, Option, Some, None, if◌then◌else◌, codes, map}
use Rattle.std.specs.Str.{bytes_eq}
use Rattle.own_tree.specs.declared.place.Ty.{Ty}
use Rattle.own_tree.specs.declared.place.Ty.TheVariants as type
use Rattle.own_tree.specs.Source.{Decl}
use Rattle.own_shapes.specs.Types.{declared_types, named}

abbrev pub type_texts : List Decl → List (List ℕ)
type_texts ds = map (λ d. d.name.text) (declared_types ds)

-- the number of the first of that name, of those from number k on
abbrev pub number_in : ℕ → List (List ℕ) → List ℕ → Option ℕ
number_in k [] name = None
number_in k (n ∷ ns) name = if bytes_eq n name then Some k else number_in (suc k) ns name

-- what a written name stands for
abbrev pub written_in : List (List ℕ) → List ℕ → Ty
written_in names name =
    if bytes_eq name (codes "Int") then type.Int
    else if bytes_eq name (codes "Bool") then type.Bool
    else named (number_in 0 names name)
