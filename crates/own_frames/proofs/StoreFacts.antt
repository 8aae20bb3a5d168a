-- Lists of activations: after a write, without the last ones, and by what their activations are besides values.
use Rattle.std.proofs.Common.{◌≡◌, ℕ, zero, suc, ◌<◌, Bool, true, false, List, [], ◌∷◌, ◌++◌, Option, Some, None, length, take, refl, sym, ap, ◌∙◌, subst, arith}
use Rattle.std.specs.Prelude.{◌==◌, map, option_map, slice_get, slice_set}
use Rattle.std.proofs.lemmas.Bool.Decides.{Decides-eqb}
use Rattle.std.proofs.lemmas.List.{length-take, take-map}
use Rattle.std.proofs.lemmas.Option.{slice_get-map}
use Rattle.own_runs.specs.Store.{Activation}
use Rattle.own_frames.specs.Frame.{bare, links}

IsFalsity : Bool → Type 0
IsFalsity true = ⊥
IsFalsity false = Unit {0}

pub false_true : true ≡ false → ⊥
unfolding IsFalsity
false_true e = subst IsFalsity (sym e) tt

IsSomething : {A : Type 0} → Option A → Type 0
IsSomething None = ⊥
IsSomething (Some a) = Unit {0}

pub none_some : {A : Type 0} (a : A) → None ≡ Some a → ⊥
unfolding IsSomething
none_some a e = subst IsSomething (sym e) tt

the_some : {A : Type 0} (d : A) → Option A → A
the_some d None = d
the_some d (Some a) = a

pub some_same : {A : Type 0} (a b : A) → Some a ≡ Some b → a ≡ b
unfolding the_some
some_same a b e = ap (the_some a) e

pub same_number : (a : ℕ) → (a == a) ≡ true
same_number a = (Decides-eqb a a).1 refl

pub get_set_same : {X : Type 0} (xs : List X) (i : ℕ) (x y : X) → slice_get xs i ≡ Some y
    → slice_get (slice_set xs i x) i ≡ Some x
get_set_same [] i x y e = absurd (none_some y e)
get_set_same (z ∷ zs) zero x y e = refl
get_set_same (z ∷ zs) (suc i) x y e = get_set_same zs i x y e

pub take_set : {X : Type 0} (n : ℕ) (xs : List X) (x : X) → take n (slice_set xs n x) ≡ take n xs
take_set n [] x = refl
take_set zero (y ∷ ys) x = refl
take_set (suc n) (y ∷ ys) x = ap (λ l. y ∷ l) (take_set n ys x)

pub map_set : {X Y : Type 0} (f : X → Y) (xs : List X) (i : ℕ) (x y : X) → slice_get xs i ≡ Some x → f y ≡ f x
    → map f (slice_set xs i y) ≡ map f xs
map_set f [] i x y e h = refl
map_set f (z ∷ zs) zero x y e h = ap (λ u. u ∷ map f zs) (h ∙ ap f (sym (some_same z x e)))
map_set f (z ∷ zs) (suc i) x y e h = ap (λ l. f z ∷ l) (map_set f zs i x y e h)

pub get_take : {X : Type 0} (n : ℕ) (xs : List X) (i : ℕ) (x : X) → slice_get (take n xs) i ≡ Some x
    → slice_get xs i ≡ Some x
get_take zero xs i x e = absurd (none_some x e)
get_take (suc n) [] i x e = e
get_take (suc n) (y ∷ ys) zero x e = e
get_take (suc n) (y ∷ ys) (suc i) x e = get_take n ys i x e

-- what stands behind an element of a mapped list
pub get_map : {X Y : Type 0} (f : X → Y) (xs : List X) (i : ℕ) (y : Y) → slice_get (map f xs) i ≡ Some y
    → (x : X) × (slice_get xs i ≡ Some x) × (f x ≡ y)
get_map f [] i y e = absurd (none_some y e)
get_map f (x ∷ xs) zero y e = (x, refl, some_same (f x) y e)
get_map f (x ∷ xs) (suc i) y e = get_map f xs i y e

pub map_get : {X Y : Type 0} (f : X → Y) (xs : List X) (i : ℕ) (x : X) → slice_get xs i ≡ Some x
    → slice_get (map f xs) i ≡ Some (f x)
map_get f xs i x e = slice_get-map f xs i ∙ ap (option_map f) e

pub get_append : {X : Type 0} (xs ys : List X) (i : ℕ) → i < length xs → slice_get (xs ++ ys) i ≡ slice_get xs i
get_append [] ys i lt = absurd (omega (arith, lt))
get_append (x ∷ xs) ys zero lt = refl
get_append (x ∷ xs) ys (suc i) lt = get_append xs ys i (omega (arith, lt))

pub length_take_one : {X : Type 0} (n : ℕ) (xs : List X) → length xs ≡ suc n → length (take n xs) ≡ n
length_take_one n xs e = length-take n xs ∙ omega (arith, e)

pub links_take : (n : ℕ) (acts : List Activation) → links (take n acts) ≡ take n (links acts)
links_take n acts = sym (take-map bare n acts)

-- the activation after a step that keeps the links
pub linked_get : (old new : List Activation) (a : ℕ) (act : Activation) → links new ≡ links old
    → slice_get old a ≡ Some act → (act' : Activation) × (slice_get new a ≡ Some act') × (bare act' ≡ bare act)
linked_get old new a act e found =
    get_map bare new a (bare act) (ap (λ l. slice_get l a) e ∙ map_get bare old a act found)

pub get_take_same : {X : Type 0} (n : ℕ) (xs : List X) (i : ℕ) → i < n → slice_get (take n xs) i ≡ slice_get xs i
get_take_same zero xs i lt = absurd (omega (arith, lt))
get_take_same (suc n) [] i lt = refl
get_take_same (suc n) (y ∷ ys) zero lt = refl
get_take_same (suc n) (y ∷ ys) (suc i) lt = get_take_same n ys i (omega (arith, lt))
