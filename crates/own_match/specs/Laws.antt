-- What is proved of these definitions, for contracts to cite.
use Rattle.std.specs.Prelude.{◌≡◌, ◌↔◌, ℕ, ◌<◌, ◌≤◌, ◌⊎◌, true, List}
use Rattle.own_tree.specs.TypedSource.{TPat}
use Rattle.own_tree.specs.declared.limits.TheConstants.{MOST_TYPE_SLOTS}
use Rattle.own_tree.specs.declared.place.Ty.TheVariants as type
use Rattle.own_table.specs.declared.table.TypeTable.{TypeTable}
use Rattle.own_table.specs.Table.{types_in, shape_in_table}
use Rattle.own_shapes.specs.Types.{Shape}
use Rattle.own_table.specs.HasValue.{has_value}
use Rattle.own_match.specs.Weights.{weight}
use Rattle.own_match.specs.Values.{Val, IsOf}
use Rattle.own_match.specs.Forms.{IsForm, StandsFor, ComesBefore, IsMissing, IsFirst}

-- the types that are said to have a value are those that have one
abbrev pub HasValueIsExact : Type 0
HasValueIsExact = (s : Shape) → has_value s ≡ true ↔ ((v : Val) × IsOf s v)

-- each value of a type has a form that stands for it
abbrev pub ValuesHaveForms : Type 0
ValuesHaveForms = (s : Shape) (ps : List TPat) (v : Val) → IsOf s v → (f : TPat) × IsForm s ps f × StandsFor ps f v

-- of two forms of a type that are not the same, one comes before the other
abbrev pub FormsAreOrdered : Type 0
FormsAreOrdered = (s : Shape) (ps : List TPat) (f g : TPat) → IsForm s ps f → IsForm s ps g → ComesBefore f g ⊎ ((f ≡ g) ⊎ ComesBefore g f)

-- no form comes before itself
abbrev pub FormsAreApart : Type 0
FormsAreApart = (f : TPat) → ComesBefore f f → ⊥

-- one form at most is the first that is missing
abbrev pub FirstMissingIsOne : Type 0
FirstMissingIsOne = (s : Shape) (ps : List TPat) (f g : TPat) → IsMissing s ps f → IsFirst s ps f → IsMissing s ps g → IsFirst s ps g → f ≡ g

-- A form of a declared type has no more places than a type may have slots (M8), and the search goes down one level for
-- each place.
abbrev pub FormsAreSmall : Type 0
FormsAreSmall = (table : TypeTable) (k : ℕ) → k < (types_in table).count → weight (shape_in_table table (type.Named k)) ≤ MOST_TYPE_SLOTS
