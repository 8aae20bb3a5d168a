-- Where the answer of a step comes from.
use Rattle.std.proofs.Common.{◌≡◌, ℕ, suc, ◌≤◌, ◌<◌, Bool, cond, ltb, true, false, Option, Some, None, Result, Ok, Err, ◌⊎◌, inl, inr, refl, ap, arith}
use Rattle.std.proofs.lemmas.Bool.{lt-ltb, le-ltb}
use Rattle.std.proofs.lemmas.Bool.Decides.{leb_tells}
use Rattle.own_grammar.specs.Reading.{Fault, Syntax, Depth, ◌>>=◌, on_some}

abbrev pub done : {A : Type 0} → A → Result A Fault
done x = Ok x

pub le_tells : (a b : ℕ) → (a ≤ b) ⊎ (b < a)
le_tells a b = elim (leb_tells a b) [ inl y ↦ inl y.1 | inr n ↦ inr n.1 ]

-- ---- Ok

pub bind_is : {A B : Type 0} (r : Result A Fault) (f : A → Result B Fault) (x : A) → r ≡ Ok x → (r >>= f) ≡ f x
bind_is (Ok y) f x e = ap f same
  where
    same : y ≡ x
    same = cc
bind_is (Err y) f x e = absurd cc

pub bind_ok : {A B : Type 0} (r : Result A Fault) (f : A → Result B Fault) (y : B) → (r >>= f) ≡ Ok y → (x : A) × (r ≡ Ok x) × (f x ≡ Ok y)
bind_ok (Ok x) f y e = (x, refl, e)
bind_ok (Err d) f y e = absurd cc

pub ok_is : {A : Type 0} (x y : A) → done x ≡ done y → x ≡ y
ok_is x y e = cc

pub chosen : {A : Type 0} (b : Bool) (x y z : A) → cond b x y ≡ z → ((b ≡ true) × (x ≡ z)) ⊎ ((b ≡ false) × (y ≡ z))
chosen true x y z e = inl (refl, e)
chosen false x y z e = inr (refl, e)

pub kept : {A : Type 0} (b : Bool) (r : Result A Fault) (f : Fault) (y : A) → cond b r (Err f) ≡ Ok y → (b ≡ true) × (r ≡ Ok y)
kept true r f y e = (refl, e)
kept false r f y e = absurd cc

pub some_or : {A B : Type 0} (o : Option A) (f : A → B) (r z : B) → on_some o f r ≡ z → ((x : A) × (o ≡ Some x) × (f x ≡ z)) ⊎ ((o ≡ None) × (r ≡ z))
some_or (Some x) f r z e = inl (x, refl, e)
some_or None f r z e = inr (refl, e)

pub some_kept : {A B : Type 0} (o : Option A) (f : A → Result B Fault) (y : Fault) (z : B) → on_some o f (Err y) ≡ Ok z → (x : A) × (o ≡ Some x) × (f x ≡ Ok z)
some_kept (Some x) f y z e = (x, refl, e)
some_kept None f y z e = absurd cc

-- ---- Depth

abbrev pub bad : {A : Type 0} → Fault → Result A Fault
bad f = Err f

pub depth_is : {A : Type 0} (n k : ℕ) → bad {A = A} (Depth n) ≡ Err (Depth k) → n ≡ k
depth_is n k e = cc

pub bind_err : {A B : Type 0} (r : Result A Fault) (f : A → Result B Fault) (y : Fault) → (r >>= f) ≡ Err y → (r ≡ Err y) ⊎ ((x : A) × (r ≡ Ok x) × (f x ≡ Err y))
bind_err (Ok x) f y e = inr (x, refl, e)
bind_err (Err d) f y e = inl cc

-- a part, and then no more that could be too deep
pub bind_deep : {A B : Type 0} (r : Result A Fault) (f : A → B) (n : ℕ) → (r >>= λ x. done (f x)) ≡ Err (Depth n) → r ≡ Err (Depth n)
bind_deep (Ok x) f n e = absurd cc
bind_deep (Err d) f n e = cc

-- a test that is followed by a syntax fault
pub syn : {A : Type 0} (b : Bool) (r : Result A Fault) (m n : ℕ) → cond b r (Err (Syntax m)) ≡ Err (Depth n) → (b ≡ true) × (r ≡ Err (Depth n))
syn true r m n e = (refl, e)
syn false r m n e = absurd cc

pub some_syn : {A B : Type 0} (o : Option A) (f : A → Result B Fault) (m n : ℕ) → on_some o f (Err (Syntax m)) ≡ Err (Depth n) → (x : A) × (o ≡ Some x) × (f x ≡ Err (Depth n))
some_syn (Some x) f m n e = (x, refl, e)
some_syn None f m n e = absurd cc

-- a test of the limit
pub lim : {A : Type 0} (a b : ℕ) (r : Result A Fault) (m n : ℕ) → cond (ltb a b) r (Err (Depth m)) ≡ Err (Depth n) → ((a < b) × (r ≡ Err (Depth n))) ⊎ ((b ≤ a) × (m ≡ n))
lim {A} a b r m n e = elim (leb_tells (suc a) b) [
  | inl y ↦ inl (y.1, (rw y.0 at e))
  | inr y ↦ inr (omega (arith, y.1), depth_is {A = A} m n (rw y.0 at e))
]

pub no_ok : {A : Type 0} (x : A) (n : ℕ) → done x ≡ Err (Depth n) → ⊥
no_ok x n e = absurd cc

pub no_syntax : {A : Type 0} (m n : ℕ) → bad {A = A} (Syntax m) ≡ Err (Depth n) → ⊥
no_syntax m n e = absurd cc

-- ---- two readings that are alike

module _ (loose : Type 0) where
  -- equal, or, where that is let go, the first is too deep
  pub data Near {A : Type 0} (r r' : Result A Fault) : Type 0 where
    same : r ≡ r' → Near r r'
    deep : loose → (n : ℕ) → r ≡ Err (Depth n) → Near r r'

  bind_same : {A B : Type 0} (r r' : Result A Fault) (f f' : A → Result B Fault) → r ≡ r' → ((x : A) → r ≡ Ok x → Near (f x) (f' x)) → Near (r >>= f) (r' >>= f')
  bind_same (Ok x) r' f f' e h = rw (← e) (h x refl)
  bind_same (Err x) r' f f' e h = rw (← e) (same refl)

  pub near_bind : {A B : Type 0} (r r' : Result A Fault) (f f' : A → Result B Fault) → Near r r' → ((x : A) → r ≡ Ok x → Near (f x) (f' x)) → Near (r >>= f) (r' >>= f')
  near_bind r r' f f' (same e) h = bind_same r r' f f' e h
  near_bind r r' f f' (deep l n e) h = deep l n (rw e refl)

  pub near_cond : {A : Type 0} (b : Bool) (x x' y y' : Result A Fault) → (b ≡ true → Near x x') → (b ≡ false → Near y y') → Near (cond b x y) (cond b x' y')
  near_cond true x x' y y' p q = p refl
  near_cond false x x' y y' p q = q refl

  pub near_some : {A B : Type 0} (o : Option A) (f f' : A → Result B Fault) (r r' : Result B Fault) → ((x : A) → o ≡ Some x → Near (f x) (f' x)) → (o ≡ None → Near r r') → Near (on_some o f r) (on_some o f' r')
  near_some (Some x) f f' r r' p q = p x refl
  near_some None f f' r r' p q = q refl

  module _ (most most' : ℕ) (limits : (most ≡ most') ⊎ (loose × (most ≤ most'))) where
    near_limit_by : {A : Type 0} (n m : ℕ) (x x' : Result A Fault) (l : (most ≡ most') ⊎ (loose × (most ≤ most'))) → (n < most → Near x x') → ((ltb n most ≡ true) × (n < most)) ⊎ (ltb n most ≡ false)
        → Near (cond (ltb n most) x (Err (Depth m))) (cond (ltb n most') x' (Err (Depth m)))
    near_limit_by n m x x' (inl e) h (inl y) = rw (← e, y.0) (h y.1)
    near_limit_by n m x x' (inl e) h (inr y) = rw (← e, y) (same refl)
    near_limit_by n m x x' (inr l) h (inl y) = rw (y.0, lt-ltb n most' (omega (arith, y.1, l.1))) (h y.1)
    near_limit_by n m x x' (inr l) h (inr y) = deep l.0 m (rw y refl)

    ltb_tells : (n m : ℕ) → ((ltb n m ≡ true) × (n < m)) ⊎ (ltb n m ≡ false)
    ltb_tells n m = elim (le_tells m n) [ inl y ↦ inr (le-ltb n m y) | inr y ↦ inl (lt-ltb n m y, y) ]

    pub near_limit : {A : Type 0} (n m : ℕ) (x x' : Result A Fault) → (n < most → Near x x') → Near (cond (ltb n most) x (Err (Depth m))) (cond (ltb n most') x' (Err (Depth m)))
    near_limit n m x x' h = near_limit_by n m x x' limits h (ltb_tells n most)

pub equal : {A : Type 0} (r r' : Result A Fault) → Near ⊥ r r' → r ≡ r'
equal r r' (same e) = e
equal r r' (deep l n e) = absurd l
