-- A number that is read is spelled so, and one that is spelled so is read, whatever follows.
use Rattle.std.proofs.Common.{◌≡◌, ℕ, ◌+◌, ◌-◌, ◌*◌, ◌^◌, ◌<◌, ◌≤◌, Bool, true, false, cond, ltb, leb, List, [], ◌∷◌, ◌++◌, Option, Some, None, Result, Ok, Err, refl, sym, ap, subst, arith, ◌⊎◌, inl, inr}
use Rattle.std.proofs.lemmas.Bool.{lt-ltb, le-ltb, ltb-true, ltb-false, leb-true, le-leb}
use Rattle.std.proofs.Math.Pow.{pow_mono}
use Rattle.wasm_form.specs.Leb.{IsLast, IsNumber}
use Rattle.wasm_read.specs.declared.fault.Fault.{Fault}
use Rattle.wasm_read.specs.Reading.{◌>>=◌, number_at, last_of, or_fault}
use Rattle.wasm_read.proofs.Leads.{ok_is}

-- a front of the bytes is spelled so, and the others follow
pub record Spelled {A : Type 0} (P : List ℕ → A → Type 0) (bytes : List ℕ) (x : A × List ℕ) : Type 0 where
  pub front : List ℕ
  pub parts : bytes ≡ front ++ x.1
  pub is : P front x.0

-- the two sides of a test
pub chosen : {A : Type 0} (b : Bool) (x y z : A) → cond b x y ≡ z → ((b ≡ true) × (x ≡ z)) ⊎ ((b ≡ false) × (y ≡ z))
chosen true x y z e = inl (refl, e)
chosen false x y z e = inr (refl, e)

pub bind_ok : {A B : Type 0} (r : Result A Fault) (f : A → Result B Fault) (y : B) → (r >>= f) ≡ Ok y → (x : A) × (r ≡ Ok x) × (f x ≡ Ok y)
bind_ok (Ok x) f y e = (x, refl, e)
bind_ok (Err d) f y e = absurd cc

pow_le : (bits : ℕ) → 2 ^ (bits - 1) ≤ 2 ^ bits
pow_le bits = let le : bits - 1 ≤ bits = omega arith in pow_mono {i = bits - 1} {j = bits} le

abbrev some : ℕ → Option ℕ
some n = Some n

some_is : (a b : ℕ) → some a ≡ some b → a ≡ b
some_is a b e = cc

-- a last byte that is read stands for its number
last_found : (signed : Bool) (bits b n : ℕ) → last_of signed bits b ≡ Some n → IsLast signed bits b n
last_found false bits b n e = elim (chosen (ltb b (2 ^ bits)) _ _ _ e) [
  | inl p ↦ let same = some_is b n p.1 in (ltb-true b (2 ^ bits) p.0, sym same)
  | inr p ↦ absurd cc
]
last_found true bits b n e = elim (chosen (ltb b 64) _ _ _ e) [
  | inl p ↦ elim (chosen (ltb b (2 ^ (bits - 1))) _ _ _ p.1) [
    | inl q ↦ let same = some_is b n q.1 in inl (ltb-true b 64 p.0, ltb-true b (2 ^ (bits - 1)) q.0, sym same)
    | inr q ↦ absurd cc
  ]
  | inr p ↦ elim (chosen (leb 128 (b + 2 ^ (bits - 1))) _ _ _ p.1) [
    | inl q ↦
        let same = some_is (2 ^ bits + b - 128) n q.1 in
        let wide = leb-true 128 (b + 2 ^ (bits - 1)) q.0 in
        let more = pow_le bits in
        inr (ltb-false b 64 p.0, wide, omega arith)
    | inr q ↦ absurd cc
  ]
]

-- and one that stands for a number is read
last_only : (signed : Bool) (bits b n : ℕ) → IsLast signed bits b n → last_of signed bits b ≡ Some n
last_only false bits b n h = rw (lt-ltb b (2 ^ bits) h.0, h.1) refl
last_only true bits b n (inl h) = rw (lt-ltb b 64 h.0, lt-ltb b (2 ^ (bits - 1)) h.1, h.2) refl
last_only true bits b n (inr h) =
    let same : 2 ^ bits + b - 128 ≡ n = omega (arith, h.2) in
    rw (le-ltb b 64 h.0, le-leb 128 (b + 2 ^ (bits - 1)) h.1, same) refl

-- what is spelled so is read, whatever follows
pub number_only : (signed : Bool) (bits : ℕ) (front : List ℕ) (n : ℕ) (rest : List ℕ) → IsNumber signed bits front n → number_at signed bits (front ++ rest) ≡ Ok (n, rest)
unfolding number_at
number_only signed bits [] n rest h = absurd h
number_only signed bits (b ∷ []) n rest h = rw (lt-ltb b 128 h.0, last_only signed bits b n h.1) refl
number_only signed bits (b ∷ c ∷ bs) n rest h =
    let k = number_only signed (bits - 7) (c ∷ bs) h.2 rest h.4 in
    let e : b - 128 + 128 * h.2 ≡ n = omega (arith, h.3, h.0) in
    rw (le-ltb b 128 h.0, lt-ltb 7 bits h.1, k, e) refl

more : (signed : Bool) (bits b : ℕ) (bytes : List ℕ) (x : ℕ × List ℕ) → 128 ≤ b → 7 < bits → Spelled (IsNumber signed (bits - 7)) bytes x → Spelled (IsNumber signed bits) (b ∷ bytes) (b - 128 + 128 * x.0, x.1)
more signed bits b bytes x lo many s = go s.front s.parts s.is
  where
    go : (front : List ℕ) → bytes ≡ front ++ x.1 → IsNumber signed (bits - 7) front x.0 → Spelled (IsNumber signed bits) (b ∷ bytes) (b - 128 + 128 * x.0, x.1)
    go [] p h = absurd h
    go (c ∷ cs) p h = record { front = b ∷ c ∷ cs; parts = ap (λ (l : List ℕ). b ∷ l) p; is = (lo, many, x.0, omega arith, h) }

one_byte : (signed : Bool) (bits b : ℕ) (rest : List ℕ) (x : ℕ × List ℕ) (o : Option ℕ) → b < 128 → last_of signed bits b ≡ o → or_fault o rest ≡ Ok x → Spelled (IsNumber signed bits) (b ∷ rest) x
one_byte signed bits b rest x None small is e = absurd cc
one_byte signed bits b rest x (Some n) small is e = subst (λ (y : ℕ × List ℕ). Spelled (IsNumber signed bits) (b ∷ rest) y) (ok_is (n, rest) x e) (record { front = b ∷ []; parts = refl; is = (small, last_found signed bits b n is) })

-- what is read is spelled so
pub number_found : (signed : Bool) (bits : ℕ) (bytes : List ℕ) (x : ℕ × List ℕ) → number_at signed bits bytes ≡ Ok x → Spelled (IsNumber signed bits) bytes x
unfolding number_at
number_found signed bits [] x e = absurd cc
number_found signed bits (b ∷ bytes) x e = elim (chosen (ltb b 128) _ _ _ e) [
  | inl p ↦ one_byte signed bits b bytes x (last_of signed bits b) (ltb-true b 128 p.0) refl p.1
  | inr p ↦ elim (chosen (ltb 7 bits) _ _ _ p.1) [
    | inl q ↦
        let k = bind_ok (number_at signed (bits - 7) bytes) (λ y. Ok (b - 128 + 128 * y.0, y.1)) x q.1 in
        let s = number_found signed (bits - 7) bytes k.0 k.1 in
        subst (λ (y : ℕ × List ℕ). Spelled (IsNumber signed bits) (b ∷ bytes) y) (ok_is (b - 128 + 128 * k.0.0, k.0.1) x k.2) (more signed bits b bytes k.0 (ltb-false b 128 p.0) (ltb-true 7 bits q.0) s)
    | inr q ↦ absurd cc
  ]
]
