-- Places: a binding and a list of fields. They are in order of binding, then of their fields, number by number.
use Rattle.std.specs.Prelude.{◌≡◌, ℕ, ◌<◌, ◌⊎◌, Bool, true, false, not, ◌&&◌, ◌||◌, ◌==◌, List, [], ◌∷◌}
use Rattle.own_tree.specs.declared.place.Place.{Place}

-- a binding as a whole
abbrev pub whole : ℕ → Place
whole binding = record { binding = binding; fields = [] }

abbrev pub is_prefix : List ℕ → List ℕ → Bool
is_prefix [] fields = true
is_prefix (k ∷ front) [] = false
is_prefix (k ∷ front) (l ∷ fields) = (k == l) && is_prefix front fields

-- the second lies at the first or below it
abbrev pub covers : Place → Place → Bool
covers p q = (p.binding == q.binding) && is_prefix p.fields q.fields

abbrev pub overlaps : Place → Place → Bool
overlaps p q = covers p q || covers q p

abbrev pub is_strictly_above : Place → Place → Bool
is_strictly_above p q = covers p q && not (covers q p)

-- one list of fields stands before another: it is a proper prefix, or smaller where they first differ
abbrev pub FieldsBefore : List ℕ → List ℕ → Type 0
FieldsBefore fields [] = ⊥
FieldsBefore [] (l ∷ others) = Unit {0}
FieldsBefore (k ∷ fields) (l ∷ others) = (k < l) ⊎ ((k ≡ l) × FieldsBefore fields others)

abbrev pub PlaceBefore : Place → Place → Type 0
PlaceBefore p q = (p.binding < q.binding) ⊎ ((p.binding ≡ q.binding) × FieldsBefore p.fields q.fields)
