-- The test of a slice, and prefixes of lists of fields.
use Rattle.std.proofs.Common.{◌≡◌, ℕ, ◌&&◌, ◌==◌, List, [], ◌∷◌, refl, ap}
use Rattle.std.specs.List.{starts_with}
use Rattle.own_shapes.specs.Places.{is_prefix}

pub starts_is_prefix : (fields front : List ℕ) → starts_with (λ x y. x == y) fields front ≡ is_prefix front fields
starts_is_prefix fields [] = refl
starts_is_prefix [] (k ∷ front) = refl
starts_is_prefix (l ∷ fields) (k ∷ front) = ap (λ b. (k == l) && b) (starts_is_prefix fields front)
