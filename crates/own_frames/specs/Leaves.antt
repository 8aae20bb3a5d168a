-- The leaves of a value as it stands in a run, by its stored properties.
use Rattle.std.specs.Prelude.{◌≡◌, ◌⊎◌, ℕ, Bool, true, false, List, [], ◌∷◌, map, Some, None}
use Rattle.own_shapes.specs.Places.{is_prefix}
use Rattle.own_runs.specs.Values.{Val, int, bool, unit, hole, struct, variant, no_vals, val, emptied, is_whole, field, Found, found, child, value_at}

-- by the numbers of stored properties
abbrev pub get : List ℕ → Val → Found Val
get fields v = value_at (map field fields) v

-- A struct with stored properties that is not tracked is its properties.
abbrev pub is_open : Val → Bool
is_open (struct type None (val v vs)) = true
is_open (struct type None no_vals) = false
is_open (struct type (Some number) vs) = false
is_open (variant present vs) = false
is_open (int n) = false
is_open (bool b) = false
is_open unit = false
is_open hole = false

-- a leaf: what no longer is its properties
abbrev pub Leaf : Val → List ℕ → Type 0
Leaf v [] = is_open v ≡ false
Leaf v (k ∷ fields) = (is_open v ≡ true) × ((c : Val) × (child v (field k) ≡ found c) × Leaf c fields)

abbrev pub WholeAt : Val → List ℕ → Type 0
WholeAt v fields = (w : Val) × (get fields v ≡ found w) × (is_whole w ≡ true)

-- A part of a value has no hole in it where each leaf that lies at it, below it or above it has none.
abbrev pub WholeFromLeaves : Type 0
WholeFromLeaves =
    (v part : Val) (fields : List ℕ) → get fields v ≡ found part
    → ((leaf : List ℕ) → Leaf v leaf → (is_prefix fields leaf ≡ true) ⊎ (is_prefix leaf fields ≡ true) → WholeAt v leaf)
    → is_whole part ≡ true

-- Where a value is moved, each of its leaves is a hole, and still a leaf.
abbrev pub LeavesAreEmptied : Type 0
LeavesAreEmptied =
    (leaf : List ℕ) (v : Val) → Leaf v leaf → (get leaf (emptied v) ≡ found hole) × Leaf (emptied v) leaf
