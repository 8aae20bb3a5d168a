-- The bindings that a body declares, by their numbers.
use Rattle.std.specs.Prelude.{◌≡◌, ℕ, suc, ◌<◌, ◌==◌, if◌then◌else◌, List, [], ◌∷◌, ◌++◌, get_or}
use Rattle.own_tree.specs.declared.place.Binding.{Binding}
use Rattle.own_bodies.specs.declared.index.BodyBindings.{BodyBindings}

-- of the bindings from number x on, those that body k declares
abbrev pub numbers_declared : ℕ → ℕ → List Binding → List ℕ
numbers_declared k x [] = []
numbers_declared k x (b ∷ bindings) =
    if b.body == k then x ∷ numbers_declared k (suc x) bindings else numbers_declared k (suc x) bindings

-- the list of body k, with a number more if it is that of this body
abbrev pub with_number : ℕ → ℕ → ℕ → List ℕ → List ℕ
with_number k body x xs = if body == k then xs ++ x ∷ [] else xs

abbrev pub numbers_in : BodyBindings → ℕ → List ℕ
numbers_in index k = get_or index.rows.items k []

-- of a text of these bindings and so many bodies
abbrev pub IsIndexOf : List Binding → ℕ → BodyBindings → Type 0
IsIndexOf bindings bodies index = (k : ℕ) → k < bodies → numbers_in index k ≡ numbers_declared k 0 bindings
