-- Lists: their elements, by recursion, and by their index, after a write and after a push.
use Rattle.std.proofs.Common.{◌≡◌, ℕ, zero, suc, ◌<◌, ◌⊎◌, List, [], ◌∷◌, ◌++◌, length, set, slice_get, Some, inl, inr, refl, ap, arith}
use Rattle.std.specs.Prelude.{Contains, slice_index_or}

abbrev pub In : {A : Type 0} → List A → A → Type 0
In [] x = ⊥
In (y ∷ ys) x = (y ≡ x) ⊎ In ys x

in_at : {A : Type 0} (xs : List A) (x : A) (k : ℕ) → k < length xs → slice_index_or xs k x ≡ x → In xs x
in_at [] x k lt e = absurd (omega (arith, lt))
in_at (y ∷ ys) x zero lt e = inl e
in_at (y ∷ ys) x (suc k) lt e = inr (in_at ys x k (omega (arith, lt)) e)

pub in_contains : {A : Type 0} (xs : List A) (x : A) → Contains xs x → In xs x
in_contains xs x c = in_at xs x c.0 c.1 c.2

pub contains_in : {A : Type 0} (xs : List A) (x : A) → In xs x → Contains xs x
contains_in [] x h = absurd h
contains_in (y ∷ ys) x (inl e) = (zero, omega arith, e)
contains_in (y ∷ ys) x (inr h) = let c = contains_in ys x h in (suc c.0, omega (arith, c.1), c.2)

pub in_front : {A : Type 0} (xs ys : List A) (x : A) → In xs x → In (xs ++ ys) x
in_front [] ys x h = absurd h
in_front (z ∷ zs) ys x (inl e) = inl e
in_front (z ∷ zs) ys x (inr h) = inr (in_front zs ys x h)

pub in_back : {A : Type 0} (xs ys : List A) (x : A) → In ys x → In (xs ++ ys) x
in_back [] ys x h = h
in_back (z ∷ zs) ys x h = inr (in_back zs ys x h)

pub in_either : {A : Type 0} (xs ys : List A) (x : A) → In (xs ++ ys) x → In xs x ⊎ In ys x
in_either [] ys x h = inr h
in_either (z ∷ zs) ys x (inl e) = inl (inl e)
in_either (z ∷ zs) ys x (inr h) = elim (in_either zs ys x h) [ inl a ↦ inl (inr a) | inr b ↦ inr b ]

-- ---- by index

pub set_same : {A : Type 0} (xs : List A) (k : ℕ) (x : A) → k < length xs → slice_get (set xs k x) k ≡ Some x
set_same [] k x lt = absurd (omega (arith, lt))
set_same (y ∷ ys) zero x lt = refl
set_same (y ∷ ys) (suc k) x lt = set_same ys k x (omega (arith, lt))

pub set_other : {A : Type 0} (xs : List A) (k j : ℕ) (x : A) → (j ≡ k → ⊥) → slice_get (set xs k x) j ≡ slice_get xs j
set_other [] k j x ne = refl
set_other (y ∷ ys) zero zero x ne = absurd (ne refl)
set_other (y ∷ ys) zero (suc j) x ne = refl
set_other (y ∷ ys) (suc k) zero x ne = refl
set_other (y ∷ ys) (suc k) (suc j) x ne = set_other ys k j x (λ e. ne (ap (λ n. suc n) e))

pub get_front : {A : Type 0} (xs ys : List A) (i : ℕ) (x : A) → slice_get xs i ≡ Some x → slice_get (xs ++ ys) i ≡ Some x
get_front [] ys i x e = absurd cc
get_front (z ∷ zs) ys zero x e = e
get_front (z ∷ zs) ys (suc i) x e = get_front zs ys i x e

pub get_pushed : {A : Type 0} (xs : List A) (y : A) → slice_get (xs ++ y ∷ []) (length xs) ≡ Some y
get_pushed [] y = refl
get_pushed (z ∷ zs) y = get_pushed zs y

pub get_push_cases : {A : Type 0} (xs : List A) (y : A) (i : ℕ) (x : A) → slice_get (xs ++ y ∷ []) i ≡ Some x → (slice_get xs i ≡ Some x) ⊎ ((i ≡ length xs) × (y ≡ x))
get_push_cases [] y zero x e = inr (refl, cc)
get_push_cases [] y (suc i) x e = absurd cc
get_push_cases (z ∷ zs) y zero x e = inl e
get_push_cases (z ∷ zs) y (suc i) x e = elim (get_push_cases zs y i x e) [ inl h ↦ inl h | inr h ↦ inr (ap (λ n. suc n) h.0, h.1) ]

pub in_get : {A : Type 0} (xs : List A) (x : A) → In xs x → (i : ℕ) × (i < length xs) × (slice_get xs i ≡ Some x)
in_get [] x h = absurd h
in_get (y ∷ ys) x (inl e) = (zero, omega arith, ap (λ z. Some z) e)
in_get (y ∷ ys) x (inr h) = let there = in_get ys x h in (suc there.0, omega (arith, there.1), there.2)

pub get_in : {A : Type 0} (xs : List A) (i : ℕ) (x : A) → slice_get xs i ≡ Some x → In xs x
get_in [] i x e = absurd cc
get_in (y ∷ ys) zero x e = inl cc
get_in (y ∷ ys) (suc i) x e = inr (get_in ys i x e)

pub contains_get : {A : Type 0} (xs : List A) (x : A) → Contains xs x → (i : ℕ) × (i < length xs) × (slice_get xs i ≡ Some x)
contains_get xs x c = in_get xs x (in_contains xs x c)

pub get_contains : {A : Type 0} (xs : List A) (i : ℕ) (x : A) → slice_get xs i ≡ Some x → Contains xs x
get_contains xs i x e = contains_in xs x (get_in xs i x e)
