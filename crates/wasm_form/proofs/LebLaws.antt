-- The shortest forms of numbers are forms of them, and no longer than others.
use Rattle.std.proofs.Common.{◌≡◌, ℕ, zero, suc, ◌+◌, ◌-◌, ◌*◌, ◌/◌, ◌%◌, ◌^◌, ◌<◌, ◌≤◌, Bool, true, false, cond, List, [], ◌∷◌, length, refl, ap, subst, ◌∙◌, arith, inl, inr}
use Rattle.std.specs.List.{AllByRecursion}
use Rattle.std.proofs.Math.Pow.{pow_mono}
use Rattle.std.proofs.lemmas.Bool.{cases_lt, lt-ltb, le-ltb}
use Rattle.std.proofs.lemmas.Nat.{pow-add}
use Rattle.wasm_form.specs.Leb.{IsLast, IsNumber, shortest_in, group_of, shortest_signed_in, unsigned_shortest, signed_shortest, i32_shortest, i64_shortest}

-- each number is a byte
abbrev pub AreBytes : List ℕ → Type 0
AreBytes bytes = AllByRecursion (λ b. b < 256) bytes

pow_split : (b : ℕ) → 7 ≤ b → 2 ^ b ≡ 128 * 2 ^ (b - 7)
pow_split b le = let e : b ≡ 7 + (b - 7) = omega arith in ap (λ n. 2 ^ n) e ∙ pow-add 2 7 (b - 7)

pow_half : (b : ℕ) → 0 < b → 2 ^ b ≡ 2 * 2 ^ (b - 1)
pow_half b lt = let e : b ≡ 1 + (b - 1) = omega arith in ap (λ n. 2 ^ n) e ∙ pow-add 2 1 (b - 1)

-- up to seven bits a number is below 128
few_bits : (b n : ℕ) → b ≤ 7 → n < 2 ^ b → n < 128
few_bits b n le lt = let p : 2 ^ b ≤ 2 ^ 7 = pow_mono {i = b} {j = 7} le in omega (arith, p)

-- one byte that goes on, before the bytes of the rest
goes_on : (signed : Bool) (bits b high n : ℕ) (tail : List ℕ) → 128 ≤ b → 7 < bits → n + 128 ≡ b + 128 * high → IsNumber signed (bits - 7) tail high → IsNumber signed bits (b ∷ tail) n
goes_on signed bits b high n [] lo many e h = absurd h
goes_on signed bits b high n (c ∷ bs) lo many e h = (lo, many, high, e, h)

shortest_number : (k bits n : ℕ) → 0 < bits → bits ≤ 7 * k → n < 2 ^ bits → IsNumber false bits (shortest_in k n) n
unfolding shortest_in
shortest_number zero bits n some few lt = absurd (omega arith)
shortest_number (suc k) bits n some few lt = elim (cases_lt n 128) [
  | inl small ↦ rw (lt-ltb n 128 small) (small, (lt, refl))
  | inr large ↦
      elim (cases_lt 7 bits) [
        | inl many ↦
            let p = pow_split bits (omega arith) in
            let rest : n / 128 < 2 ^ (bits - 7) = omega (arith, p) in
            let h = shortest_number k (bits - 7) (n / 128) (omega arith) (omega arith) rest in
            rw (le-ltb n 128 large) (goes_on false bits (n % 128 + 128) (n / 128) n (shortest_in k (n / 128)) (omega arith) many (omega arith) h)
        | inr le ↦ let small = few_bits bits n le lt in absurd (omega arith)
      ]
]

-- an unsigned number below 2 ^ bits, of at most 64 bits
pub unsigned_number : (bits n : ℕ) → 0 < bits → bits ≤ 64 → n < 2 ^ bits → IsNumber false bits (unsigned_shortest n) n
unfolding unsigned_shortest
unsigned_number bits n some few lt = shortest_number 10 bits n some (omega arith) lt

-- the two's complement of n, or of -1 - n
abbrev complement_of : Bool → ℕ → ℕ → ℕ
complement_of negative bits n = cond negative (2 ^ bits - 1 - n) n

last_group : (negative : Bool) (bits n : ℕ) → 0 < bits → n < 64 → n < 2 ^ (bits - 1) → IsNumber true bits (group_of negative n ∷ []) (complement_of negative bits n)
last_group false bits n some small lt =
    let e : n % 128 ≡ n = omega arith in
    let p = pow_half bits some in
    (omega arith, inl (omega arith, omega arith, omega arith))
last_group true bits n some small lt =
    let p = pow_half bits some in
    (omega arith, inr (omega arith, omega arith, omega arith))

next_group : (negative : Bool) (bits n : ℕ) → 7 < bits → n < 2 ^ (bits - 1) → complement_of negative bits n + 128 ≡ (group_of negative n + 128) + 128 * complement_of negative (bits - 7) (n / 128)
next_group false bits n many lt = omega arith
next_group true bits n many lt =
    let p = pow_half bits (omega arith) in
    let q = pow_split bits (omega arith) in
    omega arith

group_small : (negative : Bool) (n : ℕ) → group_of negative n < 128
group_small false n = omega arith
group_small true n = omega arith

shortest_signed_number : (k bits n : ℕ) (negative : Bool) → 0 < bits → bits ≤ 7 * k → n < 2 ^ (bits - 1) → IsNumber true bits (shortest_signed_in k negative n) (complement_of negative bits n)
unfolding shortest_signed_in
shortest_signed_number zero bits n negative some few lt = absurd (omega arith)
shortest_signed_number (suc k) bits n negative some few lt = elim (cases_lt n 64) [
  | inl small ↦ rw (lt-ltb n 64 small) (last_group negative bits n some small lt)
  | inr large ↦
      elim (cases_lt 7 bits) [
        | inl many ↦
            let low = group_small negative n in
            let le : 7 ≤ bits - 1 = omega arith in
            let p = pow_split (bits - 1) le in
            let same : bits - 1 - 7 ≡ bits - 7 - 1 = omega arith in
            let q = ap (λ m. 2 ^ m) same in
            let rest : n / 128 < 2 ^ (bits - 7 - 1) = omega (arith, p, q) in
            let h = shortest_signed_number k (bits - 7) (n / 128) negative (omega arith) (omega arith) rest in
            rw (le-ltb n 64 large) (goes_on true bits (group_of negative n + 128) (complement_of negative (bits - 7) (n / 128)) (complement_of negative bits n) (shortest_signed_in k negative (n / 128)) (omega arith) many (next_group negative bits n many lt) h)
        | inr le ↦
            let less : bits - 1 ≤ 6 = omega arith in
            let p : 2 ^ (bits - 1) ≤ 2 ^ 6 = pow_mono {i = bits - 1} {j = 6} less in
            absurd (omega (arith, p))
      ]
]

pub i32_number : (n : ℕ) → n < 2 ^ 32 → IsNumber true 32 (i32_shortest n) n
unfolding i32_shortest signed_shortest
i32_number n lt = elim (cases_lt n (2 ^ 31)) [
  | inl small ↦ rw (lt-ltb n (2 ^ 31) small) (shortest_signed_number 10 32 n false (omega arith) (omega arith) small)
  | inr large ↦
      let less : 2 ^ 32 - 1 - n < 2 ^ 31 = omega arith in
      let same : 2 ^ 32 - 1 - (2 ^ 32 - 1 - n) ≡ n = omega arith in
      rw (le-ltb n (2 ^ 31) large) (subst (λ m. IsNumber true 32 (shortest_signed_in 10 true (2 ^ 32 - 1 - n)) m) same (shortest_signed_number 10 32 (2 ^ 32 - 1 - n) true (omega arith) (omega arith) less))
]

pub i64_number : (n : ℕ) → n < 2 ^ 64 → IsNumber true 64 (i64_shortest n) n
unfolding i64_shortest signed_shortest
i64_number n lt = elim (cases_lt n (2 ^ 63)) [
  | inl small ↦ rw (lt-ltb n (2 ^ 63) small) (shortest_signed_number 10 64 n false (omega arith) (omega arith) small)
  | inr large ↦
      let less : 2 ^ 64 - 1 - n < 2 ^ 63 = omega arith in
      let same : 2 ^ 64 - 1 - (2 ^ 64 - 1 - n) ≡ n = omega arith in
      rw (le-ltb n (2 ^ 63) large) (subst (λ m. IsNumber true 64 (shortest_signed_in 10 true (2 ^ 64 - 1 - n)) m) same (shortest_signed_number 10 64 (2 ^ 64 - 1 - n) true (omega arith) (omega arith) less))
]

-- ---- the shortest forms are no longer than others

-- a number in so many bits is below the power of two
unsigned_bound : (bits n : ℕ) (bytes : List ℕ) → AreBytes bytes → IsNumber false bits bytes n → n < 2 ^ bits
unsigned_bound bits n [] b h = absurd h
unsigned_bound bits n (c ∷ []) b h = let lt = h.1.0 in let e = h.1.1 in omega (arith, lt, e)
unsigned_bound bits n (c ∷ d ∷ bytes) b h =
    let high = unsigned_bound (bits - 7) h.2 (d ∷ bytes) b.1 h.4 in
    let many = h.1 in
    let e = h.3 in
    let byte = b.0 in
    let p = pow_split bits (omega (arith, many)) in
    omega (arith, high, e, byte, p)

signed_bound : (bits n : ℕ) (bytes : List ℕ) → AreBytes bytes → IsNumber true bits bytes n → n < 2 ^ bits
signed_bound bits n [] b h = absurd h
signed_bound bits n (c ∷ []) b (small, inl h) = let lt = h.1 in let e = h.2 in let p : 2 ^ (bits - 1) ≤ 2 ^ bits = pow_mono {i = bits - 1} {j = bits} (omega arith) in omega (arith, lt, e, p)
signed_bound bits n (c ∷ []) b (small, inr h) = let e = h.2 in omega (arith, small, e)
signed_bound bits n (c ∷ d ∷ bytes) b h =
    let high = signed_bound (bits - 7) h.2 (d ∷ bytes) b.1 h.4 in
    let many = h.1 in
    let e = h.3 in
    let byte = b.0 in
    let p = pow_split bits (omega (arith, many)) in
    omega (arith, high, e, byte, p)

-- the number of a first byte that goes on
high_is : (b high n : ℕ) → 128 ≤ b → b < 256 → n + 128 ≡ b + 128 * high → n / 128 ≡ high
high_is b high n lo hi e = omega arith

shortest_in_least : (k bits n : ℕ) (bytes : List ℕ) → AreBytes bytes → IsNumber false bits bytes n → length (shortest_in k n) ≤ length bytes
unfolding shortest_in
shortest_in_least zero bits n bytes b h = omega arith
shortest_in_least (suc k) bits n [] b h = absurd h
shortest_in_least (suc k) bits n (c ∷ []) b h = let small : n < 128 = (let lt = h.0 in let e = h.1.1 in omega (arith, lt, e)) in rw (lt-ltb n 128 small) (omega arith)
shortest_in_least (suc k) bits n (c ∷ d ∷ bytes) b h = elim (cases_lt n 128) [
  | inl small ↦ rw (lt-ltb n 128 small) (omega arith)
  | inr large ↦
      let same = high_is c h.2 n h.0 b.0 h.3 in
      let others = shortest_in_least k (bits - 7) h.2 (d ∷ bytes) b.1 h.4 in
      rw (le-ltb n 128 large, same) (omega (arith, others))
]

pub unsigned_least : (bits n : ℕ) (bytes : List ℕ) → AreBytes bytes → IsNumber false bits bytes n → length (unsigned_shortest n) ≤ length bytes
unfolding unsigned_shortest
unsigned_least bits n bytes b h = shortest_in_least 10 bits n bytes b h

shortest_in_monotone : (k a b : ℕ) → a ≤ b → length (shortest_in k a) ≤ length (shortest_in k b)
unfolding shortest_in
shortest_in_monotone zero a b le = omega arith
shortest_in_monotone (suc k) a b le = elim (cases_lt b 128) [
  | inl small ↦ let less : a < 128 = omega arith in rw (lt-ltb a 128 less, lt-ltb b 128 small) (omega arith)
  | inr large ↦ elim (cases_lt a 128) [
    | inl small ↦ rw (lt-ltb a 128 small, le-ltb b 128 large) (omega arith)
    | inr also ↦
        let less : a / 128 ≤ b / 128 = omega arith in
        let others = shortest_in_monotone k (a / 128) (b / 128) less in
        rw (le-ltb a 128 also, le-ltb b 128 large) (omega (arith, others))
  ]
]

pub unsigned_monotone : (a b : ℕ) → a ≤ b → length (unsigned_shortest a) ≤ length (unsigned_shortest b)
unfolding unsigned_shortest
unsigned_monotone a b le = shortest_in_monotone 10 a b le

pub u32_below : (n : ℕ) (bytes : List ℕ) → AreBytes bytes → IsNumber false 32 bytes n → n < 2 ^ 32
u32_below n bytes b h = unsigned_bound 32 n bytes b h

-- a last byte leaves less than 64 of a number, or of its complement
last_small : (negative : Bool) (bits c j : ℕ) → 0 < bits → c < 128 → j < 2 ^ (bits - 1) → IsLast true bits c (complement_of negative bits j) → j < 64
last_small false bits c j some small lt (inl h) = let e = h.2 in let k = h.0 in omega (arith, e, k)
last_small true bits c j some small lt (inl h) = let e = h.2 in let k = h.1 in let p = pow_half bits some in absurd (omega (arith, e, k, p, lt))
last_small false bits c j some small lt (inr h) = let e = h.2 in let k = h.1 in let l = h.0 in let p = pow_half bits some in absurd (omega (arith, e, k, l, p, lt, small))
last_small true bits c j some small lt (inr h) = let e = h.2 in let k = h.0 in let p = pow_half bits some in omega (arith, e, k, p, lt, small)

high_complement : (negative : Bool) (bits b high j : ℕ) → 128 ≤ b → b < 256 → 7 < bits → j < 2 ^ (bits - 1) → complement_of negative bits j + 128 ≡ b + 128 * high → high ≡ complement_of negative (bits - 7) (j / 128)
high_complement false bits b high j lo hi many lt e = omega arith
high_complement true bits b high j lo hi many lt e =
    let p = pow_half bits (omega arith) in
    let q = pow_split bits (omega arith) in
    omega arith

shortest_signed_least : (k bits j : ℕ) (negative : Bool) (bytes : List ℕ) → 0 < bits → AreBytes bytes → j < 2 ^ (bits - 1) → IsNumber true bits bytes (complement_of negative bits j) → length (shortest_signed_in k negative j) ≤ length bytes
unfolding shortest_signed_in
shortest_signed_least zero bits j negative bytes some b lt h = omega arith
shortest_signed_least (suc k) bits j negative [] some b lt h = absurd h
shortest_signed_least (suc k) bits j negative (c ∷ []) some b lt h = let small = last_small negative bits c j some h.0 lt h.1 in rw (lt-ltb j 64 small) (omega arith)
shortest_signed_least (suc k) bits j negative (c ∷ d ∷ bytes) some b lt h = elim (cases_lt j 64) [
  | inl small ↦ rw (lt-ltb j 64 small) (omega arith)
  | inr large ↦
      let many = h.1 in
      let same = high_complement negative bits c h.2 j h.0 b.0 many lt h.3 in
      let p = pow_split (bits - 1) (omega (arith, many)) in
      let back : bits - 1 - 7 ≡ bits - 7 - 1 = omega (arith, many) in
      let q = ap (λ m. 2 ^ m) back in
      let less : j / 128 < 2 ^ (bits - 7 - 1) = omega (arith, p, q, lt) in
      let rest : IsNumber true (bits - 7) (d ∷ bytes) (complement_of negative (bits - 7) (j / 128)) = subst (λ n. IsNumber true (bits - 7) (d ∷ bytes) n) same h.4 in
      let others = shortest_signed_least k (bits - 7) (j / 128) negative (d ∷ bytes) (omega (arith, many)) b.1 less rest in
      rw (le-ltb j 64 large) (omega (arith, others))
]

pub i32_least : (n : ℕ) (bytes : List ℕ) → AreBytes bytes → IsNumber true 32 bytes n → (n < 2 ^ 32) × (length (i32_shortest n) ≤ length bytes)
unfolding i32_shortest signed_shortest
i32_least n bytes b h =
    let lt = signed_bound 32 n bytes b h in (
      lt,
      elim (cases_lt n (2 ^ 31)) [
        | inl small ↦ rw (lt-ltb n (2 ^ 31) small) (shortest_signed_least 10 32 n false bytes (omega arith) b small h)
        | inr large ↦
            let less : 2 ^ 32 - 1 - n < 2 ^ 31 = omega (arith, lt, large) in
            let same : n ≡ 2 ^ 32 - 1 - (2 ^ 32 - 1 - n) = omega (arith, lt) in
            rw (le-ltb n (2 ^ 31) large) (shortest_signed_least 10 32 (2 ^ 32 - 1 - n) true bytes (omega arith) b less (subst (λ m. IsNumber true 32 bytes m) same h))
      ],
    )

pub i64_least : (n : ℕ) (bytes : List ℕ) → AreBytes bytes → IsNumber true 64 bytes n → (n < 2 ^ 64) × (length (i64_shortest n) ≤ length bytes)
unfolding i64_shortest signed_shortest
i64_least n bytes b h =
    let lt = signed_bound 64 n bytes b h in (
      lt,
      elim (cases_lt n (2 ^ 63)) [
        | inl small ↦ rw (lt-ltb n (2 ^ 63) small) (shortest_signed_least 10 64 n false bytes (omega arith) b small h)
        | inr large ↦
            let less : 2 ^ 64 - 1 - n < 2 ^ 63 = omega (arith, lt, large) in
            let same : n ≡ 2 ^ 64 - 1 - (2 ^ 64 - 1 - n) = omega (arith, lt) in
            rw (le-ltb n (2 ^ 63) large) (shortest_signed_least 10 64 (2 ^ 64 - 1 - n) true bytes (omega arith) b less (subst (λ m. IsNumber true 64 bytes m) same h))
      ],
    )
