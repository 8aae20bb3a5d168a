-- Bits of words.
use Rattle.std.proofs.Common.{◌≡◌, ◌≢◌, ◌==◌, ℕ, zero, suc, ◌+◌, ◌-◌, ◌*◌, ◌/◌, ◌%◌, ◌^◌, ◌<◌, ◌≤◌, max, min, ◌⊎◌, inl, inr, List, [], ◌∷◌, length, get_or, refl, sym, ap, ◌∙◌, subst, arith, w64}
use Rattle.std.proofs.Math.ListN.{set}
use Rattle.std.proofs.lemmas.Bool.{cases_eq, cases_lt}
use Rattle.std.proofs.lemmas.List.{get_or-set_same, get_or-set_other, set-get_or, get_or_past}
use Rattle.std.proofs.lemmas.Nat.{le_or_l}
use Rattle.std.proofs.lemmas.Nat.Bits.{bit_at_or, bit_at_and, bit_at_not, bit_at-zero, bit_at-lt, shr_and_one, bit_at_set_same, bit_at_set_other, bit_at-trailing_zeros}
use Rattle.std.specs.Prelude.{bit_and, bit_or, ◌↔◌, replicate}
use Rattle.std.specs.Int.{bit_at, bit_not, trailing_zeros}
use Rattle.own_flow.specs.Words.{Has, bit_of, room}

-- each word fits
abbrev pub Fit : List ℕ → Type 0
Fit ws = (j : ℕ) → get_or ws j 0 < 2 ^ 64

pub has_tests : (ws : List ℕ) (i : ℕ) → (bit_and (get_or ws (i / 64) 0 / 2 ^ (i % 64)) 1 == 1) ≡ (bit_of ws i == 1)
has_tests ws i = ap (λ x. x == 1) (shr_and_one (get_or ws (i / 64) 0) (i % 64))

pub joined : (old from new : List ℕ) → ((j : ℕ) → get_or new j 0 ≡ bit_or (get_or old j 0) (get_or from j 0)) → (i : ℕ) → Has new i ↔ (Has old i ⊎ Has from i)
unfolding Has
joined old from new each i =
    let at : bit_at (get_or new (i / 64) 0) (i % 64) ≡ max (bit_at (get_or old (i / 64) 0) (i % 64)) (bit_at (get_or from (i / 64) 0) (i % 64)) =
    ap (λ x. bit_at x (i % 64)) (each (i / 64)) ∙ bit_at_or (get_or old (i / 64) 0) (get_or from (i / 64) 0) (i % 64)
    in
    let low = bit_at-lt (get_or old (i / 64) 0) (i % 64) in
    let low' = bit_at-lt (get_or from (i / 64) 0) (i % 64) in (
      λ has. elim (cases_eq (bit_at (get_or old (i / 64) 0) (i % 64)) 1) [ inl here ↦ inl here | inr other ↦ inr (omega (arith, at, has, low, low')) ],
      λ has. elim has [ inl h ↦ omega (arith, at, h, low, low') | inr h ↦ omega (arith, at, h, low, low') ],
    )

pub removed : (old what new : List ℕ) → Fit what → ((j : ℕ) → get_or new j 0 ≡ bit_and (get_or old j 0) (bit_not w64 (get_or what j 0))) → (i : ℕ) → Has new i ↔ (Has old i × ¬ (Has what i))
unfolding Has
removed old what new fit each i =
    let r : i % 64 < 64 = omega arith in
    let at : bit_at (get_or new (i / 64) 0) (i % 64) ≡ min (bit_at (get_or old (i / 64) 0) (i % 64)) (1 - bit_at (get_or what (i / 64) 0) (i % 64)) =
    ap (λ x. bit_at x (i % 64)) (each (i / 64)) ∙ bit_at_and (get_or old (i / 64) 0) (bit_not w64 (get_or what (i / 64) 0)) (i % 64)
    ∙ ap (λ x. min (bit_at (get_or old (i / 64) 0) (i % 64)) x) (bit_at_not w64 (get_or what (i / 64) 0) (i % 64) (fit (i / 64)) r)
    in
    let low = bit_at-lt (get_or old (i / 64) 0) (i % 64) in
    let low' = bit_at-lt (get_or what (i / 64) 0) (i % 64) in (
      λ has. (omega (arith, at, has, low, low'), λ h. absurd (omega (arith, at, has, h))),
      λ both. elim (cases_eq (bit_at (get_or what (i / 64) 0) (i % 64)) 1) [ inl here ↦ absurd (both.1 here) | inr other ↦ omega (arith, at, both.0, low, low', other) ],
    )

-- where two words have a bit in common
pub common : (a b : List ℕ) (k : ℕ) → bit_and (get_or a k 0) (get_or b k 0) < 2 ^ 64 → 0 < bit_and (get_or a k 0) (get_or b k 0) → (i : ℕ) × Has a i × Has b i
unfolding Has
common a b k fits some =
    let n : ℕ = bit_and (get_or a k 0) (get_or b k 0) in
    let bit : ℕ = trailing_zeros w64 n in
    let lowest = bit_at-trailing_zeros w64 n some fits in
    let both = bit_at_and (get_or a k 0) (get_or b k 0) bit in
    let low = bit_at-lt (get_or a k 0) bit in
    let low' = bit_at-lt (get_or b k 0) bit in
    let word : (k * 64 + bit) / 64 ≡ k = omega (arith, lowest.0) in
    let rest : (k * 64 + bit) % 64 ≡ bit = omega (arith, lowest.0) in
    (k * 64 + bit, rw (word, rest) (omega (arith, both, lowest.1, low, low')), rw (word, rest) (omega (arith, both, lowest.1, low, low')))

-- where no word has one
pub apart : (a b : List ℕ) → ((j : ℕ) → bit_and (get_or a j 0) (get_or b j 0) ≡ 0) → (i : ℕ) → Has a i → ¬ (Has b i)
unfolding Has
apart a b each i p q =
    let both = bit_at_and (get_or a (i / 64) 0) (get_or b (i / 64) 0) (i % 64) in
    let none = ap (λ x. bit_at x (i % 64)) (each (i / 64)) ∙ bit_at-zero (i % 64) in
    omega arith

-- a bit that the one has and the other has not
pub beyond : (a b : List ℕ) (k : ℕ) → Fit b → bit_and (get_or a k 0) (bit_not w64 (get_or b k 0)) < 2 ^ 64 → 0 < bit_and (get_or a k 0) (bit_not w64 (get_or b k 0)) → (i : ℕ) × Has a i × ¬ (Has b i)
unfolding Has
beyond a b k fit fits some =
    let n : ℕ = bit_and (get_or a k 0) (bit_not w64 (get_or b k 0)) in
    let bit : ℕ = trailing_zeros w64 n in
    let lowest = bit_at-trailing_zeros w64 n some fits in
    let both = bit_at_and (get_or a k 0) (bit_not w64 (get_or b k 0)) bit in
    let turned = bit_at_not w64 (get_or b k 0) bit (fit k) lowest.0 in
    let low = bit_at-lt (get_or a k 0) bit in
    let low' = bit_at-lt (get_or b k 0) bit in
    let word : (k * 64 + bit) / 64 ≡ k = omega (arith, lowest.0) in
    let rest : (k * 64 + bit) % 64 ≡ bit = omega (arith, lowest.0) in
    (k * 64 + bit, rw (word, rest) (omega (arith, both, turned, lowest.1, low, low')), rw (word, rest) (λ h. absurd (omega (arith, both, turned, lowest.1, h))))

pub covered : (a b : List ℕ) → Fit b → ((j : ℕ) → bit_and (get_or a j 0) (bit_not w64 (get_or b j 0)) ≡ 0) → (i : ℕ) → Has a i → Has b i
unfolding Has
covered a b fit each i p =
    let r : i % 64 < 64 = omega arith in
    let both = bit_at_and (get_or a (i / 64) 0) (bit_not w64 (get_or b (i / 64) 0)) (i % 64) in
    let turned = bit_at_not w64 (get_or b (i / 64) 0) (i % 64) (fit (i / 64)) r in
    let none = ap (λ x. bit_at x (i % 64)) (each (i / 64)) ∙ bit_at-zero (i % 64) in
    let low' = bit_at-lt (get_or b (i / 64) 0) (i % 64) in
    omega (arith, both, turned, none, p, low')

pub inserted : (ws : List ℕ) (bit : ℕ) → bit / 64 < length ws → (i : ℕ) → Has (set ws (bit / 64) (bit_or (get_or ws (bit / 64) 0) (1 * 2 ^ (bit % 64) % 2 ^ 64))) i ↔ (Has ws i ⊎ (i ≡ bit))
unfolding Has
inserted ws bit within i = elim (cases_eq (i / 64) (bit / 64)) [
  | inl word ↦
      let here : get_or (set ws (bit / 64) new) (i / 64) 0 ≡ new = ap (λ x. get_or (set ws (bit / 64) new) x 0) word ∙ get_or-set_same ws (bit / 64) new 0 within in
      elim (cases_eq (i % 64) (bit % 64)) [
        | inl same ↦
            let is : i ≡ bit = omega arith in
            (λ h. inr is, λ h. ap (λ x. bit_at x (i % 64)) here ∙ ap (λ x. bit_at new x) same ∙ bit_at_set_same w64 (get_or ws (bit / 64) 0) (bit % 64) (omega arith))
        | inr other ↦
            let at : bit_at (get_or (set ws (bit / 64) new) (i / 64) 0) (i % 64) ≡ bit_at (get_or ws (i / 64) 0) (i % 64) =
            ap (λ x. bit_at x (i % 64)) here ∙ bit_at_set_other w64 (get_or ws (bit / 64) 0) (bit % 64) (omega arith) (i % 64) other ∙ ap (λ x. bit_at (get_or ws x 0) (i % 64)) (sym word)
            in (λ h. inl (sym at ∙ h), λ h. elim h [ inl old ↦ at ∙ old | inr is ↦ absurd (other (ap (λ x. x % 64) is)) ])
      ]
  | inr word ↦
      let at : get_or (set ws (bit / 64) new) (i / 64) 0 ≡ get_or ws (i / 64) 0 = get_or-set_other ws (bit / 64) (i / 64) new 0 word in
      let same = ap (λ x. bit_at x (i % 64)) at in
      (λ h. inl (sym same ∙ h), λ h. elim h [ inl old ↦ same ∙ old | inr is ↦ absurd (word (ap (λ x. x / 64) is)) ])
]
  where
    new : ℕ
    new = bit_or (get_or ws (bit / 64) 0) (1 * 2 ^ (bit % 64) % 2 ^ 64)

-- ---- room

pub room_set : (ws : List ℕ) (k w : ℕ) → k < length ws → get_or ws k 0 < w → get_or ws k 0 < 2 ^ 64 → room (set ws k w) < room ws
unfolding room
room_set [] k w h lt fits = absurd (omega (arith, h))
room_set (x ∷ ws) zero w h lt fits = omega (arith, lt, fits)
room_set (x ∷ ws) (suc k) w h lt fits = let r = room_set ws k w (omega (arith, h)) lt fits in omega (arith, r)

-- a word that gains bits, or none
pub room_or : (ws first : List ℕ) (k v : ℕ) → k < length ws → get_or ws k 0 < 2 ^ 64 → (ws ≡ first) ⊎ (room ws < room first)
    → (set ws k (bit_or (get_or ws k 0) v) ≡ first) ⊎ (room (set ws k (bit_or (get_or ws k 0) v)) < room first)
room_or ws first k v h fits before = elim (cases_eq (bit_or (get_or ws k 0) v) (get_or ws k 0)) [
  | inl same ↦
      let is : set ws k (bit_or (get_or ws k 0) v) ≡ ws = ap (λ x. set ws k x) same ∙ set-get_or ws k 0 in
      elim before [ inl e ↦ inl (is ∙ e) | inr lt ↦ inr (subst (λ l. room l < room first) (sym is) lt) ]
  | inr other ↦
      let less = room_set ws k (bit_or (get_or ws k 0) v) h (omega (arith, le_or_l (get_or ws k 0) v, other)) fits in
      elim before [ inl e ↦ inr (subst (λ l. room (set ws k (bit_or (get_or ws k 0) v)) < room l) e less) | inr lt ↦ inr (omega (arith, less, lt)) ]
]

-- ---- loops over words

-- one word more is done
pub one_more : (ws first : List ℕ) (what : ℕ → ℕ → ℕ) (k : ℕ) → k < length ws → ((j : ℕ) → j < k → get_or ws j 0 ≡ what j (get_or first j 0)) → get_or ws k 0 ≡ get_or first k 0
    → (j : ℕ) → j < k + 1 → get_or (set ws k (what k (get_or ws k 0))) j 0 ≡ what j (get_or first j 0)
one_more ws first what k h done here j lt = elim (cases_eq j k) [
  | inl same ↦ subst (λ x. get_or (set ws k (what k (get_or ws k 0))) x 0 ≡ what x (get_or first x 0)) (sym same) (get_or-set_same ws k (what k (get_or ws k 0)) 0 h ∙ ap (what k) here)
  | inr other ↦ get_or-set_other ws k j (what k (get_or ws k 0)) 0 other ∙ done j (omega (arith, lt, other))
]

pub rest_left : (ws first : List ℕ) (k w : ℕ) → ((j : ℕ) → k ≤ j → get_or ws j 0 ≡ get_or first j 0) → (j : ℕ) → k + 1 ≤ j → get_or (set ws k w) j 0 ≡ get_or first j 0
rest_left ws first k w same j le = let other : j ≢ k = omega (arith, le) in get_or-set_other ws k j w 0 other ∙ same j (omega (arith, le))

-- past the end there is nothing
pub all_words : (ws first : List ℕ) (what : ℕ → ℕ → ℕ) (n : ℕ) → ((j : ℕ) → n ≤ j → what j 0 ≡ 0) → length first ≤ n → ((j : ℕ) → j < n → get_or ws j 0 ≡ what j (get_or first j 0)) → ((j : ℕ) → n ≤ j → get_or ws j 0 ≡ get_or first j 0)
    → (j : ℕ) → get_or ws j 0 ≡ what j (get_or first j 0)
all_words ws first what n none h done left j = elim (cases_lt j n) [
  | inl lt ↦ done j lt
  | inr le ↦ let past : get_or first j 0 ≡ 0 = get_or_past first j 0 (omega (arith, h, le)) in left j le ∙ past ∙ sym (none j le) ∙ ap (what j) (sym past)
]

-- no word of a list of zeros has a bit
pub none_has : (ws : List ℕ) → ((j : ℕ) → get_or ws j 0 ≡ 0) → (i : ℕ) → ¬ (Has ws i)
unfolding Has
none_has ws each i h = let z = ap (λ x. bit_at x (i % 64)) (each (i / 64)) ∙ bit_at-zero (i % 64) in omega (arith, z, h)

-- where the test of each word fails
pub all_zero : (a : List ℕ) (test : ℕ → ℕ → ℕ) (n : ℕ) → ((j w : ℕ) → w ≡ 0 → test j w ≡ 0) → length a ≤ n → ((j : ℕ) → j < n → test j (get_or a j 0) ≡ 0) → (j : ℕ) → test j (get_or a j 0) ≡ 0
all_zero a test n none h done j = elim (cases_lt j n) [
  | inl lt ↦ done j lt
  | inr le ↦ none j (get_or a j 0) (get_or_past a j 0 (omega (arith, h, le)))
]

pub same_all : (n j z : ℕ) → get_or (replicate n z) j z ≡ z
same_all zero j z = refl
same_all (suc n) zero z = refl
same_all (suc n) (suc j) z = same_all n j z
