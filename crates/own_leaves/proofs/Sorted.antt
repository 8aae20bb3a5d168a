-- The leaves of a body are in order of their bindings.
use Rattle.std.proofs.Common.{ℕ, zero, suc, ◌≤◌, ◌<◌, Bool, true, false, ◌==◌, cond, List, [], ◌∷◌, ◌++◌, length, map, get_or, arith}
use Rattle.std.specs.List.Sorted.{IsNonDecreasingBy}
use Rattle.own_tree.specs.declared.place.Binding.{Binding}
use Rattle.own_tree.specs.declared.place.Place.{Place}
use Rattle.own_paths.specs.Fixed.{binding_leaves, place_of}
use Rattle.own_paths.specs.Makers.{leaves_declared}
use Rattle.own_shapes.specs.Types.{Types}

-- each is of binding x or a later one, and of that of the one before it or a later one
abbrev Rises : ℕ → List Place → Type 0
Rises x [] = Unit {0}
Rises x (p ∷ ps) = (x ≤ p.binding) × Rises p.binding ps

lower : (x y : ℕ) (ps : List Place) → x ≤ y → Rises y ps → Rises x ps
lower x y [] h r = tt
lower x y (p ∷ ps) h r = (omega (arith, h, r.0), r.1)

mapped : (x : ℕ) (paths : List (List ℕ)) (ps : List Place) → Rises x ps → Rises x (map (place_of x) paths ++ ps)
mapped x [] ps r = r
mapped x (path ∷ paths) ps r = (omega arith, mapped x paths ps r)

chosen : (types : Types) (body x : ℕ) (b : Binding) (ps : List Place) (c : Bool) → Rises x ps → Rises x (cond c (map (place_of x) (binding_leaves types b) ++ ps) ps)
chosen types body x b ps true r = mapped x (binding_leaves types b) ps r
chosen types body x b ps false r = r

declared : (types : Types) (body x : ℕ) (bs : List Binding) → Rises x (leaves_declared types body x bs)
declared types body x [] = tt
declared types body x (b ∷ bs) =
    let rest = leaves_declared types body (suc x) bs in
    chosen types body x b rest (b.body == body) (lower x (suc x) rest (omega arith) (declared types body (suc x) bs))

at_least : (x : ℕ) (ps : List Place) (j : ℕ) (d : Place) → Rises x ps → j < length ps → x ≤ (get_or ps j d).binding
at_least x [] j d r h = absurd (omega (arith, h))
at_least x (p ∷ ps) zero d r h = r.0
at_least x (p ∷ ps) (suc j) d r h = let more = at_least p.binding ps j d r.1 (omega (arith, h)) in omega (arith, more, r.0)

sorted : (x : ℕ) (ps : List Place) → Rises x ps → (i j : ℕ) (d : Place) → i ≤ j → j < length ps → (get_or ps i d).binding ≤ (get_or ps j d).binding
sorted x [] r i j d le h = absurd (omega (arith, h))
sorted x (p ∷ ps) r zero zero d le h = omega arith
sorted x (p ∷ ps) r zero (suc j) d le h = at_least p.binding ps j d r.1 (omega (arith, h))
sorted x (p ∷ ps) r (suc i) zero d le h = absurd (omega (arith, le))
sorted x (p ∷ ps) r (suc i) (suc j) d le h = sorted p.binding ps r.1 i j d (omega (arith, le)) (omega (arith, h))

pub declared_sorted : (types : Types) (body : ℕ) (bs : List Binding) → IsNonDecreasingBy (λ leaf. leaf.binding) (leaves_declared types body 0 bs)
declared_sorted types body bs = sorted 0 (leaves_declared types body 0 bs) (declared types body 0 bs)
