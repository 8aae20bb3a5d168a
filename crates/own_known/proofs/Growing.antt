-- What is new in a list that grows, element by element.
use Rattle.std.specs.Prelude.{◌≡◌, ℕ, zero, suc, ◌≤◌, ◌<◌, ◌⊎◌, List, [], ◌∷◌, ◌++◌, length, Some, slice_get, slice_set}
use Rattle.std.proofs.Common.{refl, sym, ap, ◌∙◌, inl, inr, arith, subst}
use Rattle.std.proofs.lemmas.Option.{slice_get_within}
use Rattle.own_shapes.proofs.Lists.{set_same, set_other, get_front, get_pushed, get_push_cases}

-- each element that stands behind the old ones
abbrev pub NewIn : {A : Type 0} → (ℕ → A → Type 0) → (old new : List A) → Type 0
NewIn {A = A} P old new = (i : ℕ) (x : A) → length old ≤ i → slice_get new i ≡ Some x → P i x

length_joined : {A : Type 0} (xs ys : List A) → length xs ≤ length (xs ++ ys)
length_joined [] ys = omega arith
length_joined (x ∷ xs) ys = omega (arith, length_joined xs ys)

get_split :
    {A : Type 0} (xs ys : List A) (i : ℕ) (x : A) → i < length xs → slice_get (xs ++ ys) i ≡ Some x
    → slice_get xs i ≡ Some x
get_split [] ys i x lt e = absurd (omega (arith, lt))
get_split (z ∷ zs) ys zero x lt e = e
get_split (z ∷ zs) ys (suc i) x lt e = get_split zs ys i x (omega (arith, lt)) e

at_or_above : (n i : ℕ) → n ≤ i → (i ≡ n) ⊎ (suc n ≤ i)
at_or_above zero zero le = inl refl
at_or_above zero (suc i) le = inr (omega arith)
at_or_above (suc n) zero le = absurd (omega (arith, le))
at_or_above (suc n) (suc i) le =
    elim (at_or_above n i (omega (arith, le))) [ inl e ↦ inl (ap (λ k. suc k) e) | inr l ↦ inr (omega (arith, l)) ]

below_or_above : (n i : ℕ) → (i < n) ⊎ (n ≤ i)
below_or_above n i = grind arith

module _ {A : Type 0} (P : ℕ → A → Type 0) where
  pub none_new : (old new : List A) → new ≡ old → NewIn P old new
  none_new old new same i x le e =
      absurd (omega (arith, le, slice_get_within old i x (subst (λ l. slice_get l i ≡ Some x) same e)))

  -- before what comes later, and after what came before
  pub new_front : (old between new rest : List A) → new ≡ between ++ rest → NewIn P old new → NewIn P old between
  new_front old between new rest same h i x le e =
      h i x le (subst (λ l. slice_get l i ≡ Some x) (sym same) (get_front between rest i x e))

  pub new_back : (old between new rest : List A) → between ≡ old ++ rest → NewIn P old new → NewIn P between new
  new_back old between new rest same h i x le e =
      let longer : length old ≤ length between = subst (λ l. length old ≤ length l) (sym same)
      (length_joined old rest) in
      h i x (omega (arith, le, longer)) e

  pub new_joined :
      (old between new rest : List A) → new ≡ between ++ rest → NewIn P old between → NewIn P between new
      → NewIn P old new
  new_joined old between new rest same first then i x le e =
      elim (below_or_above (length between) i) [
        | inl lt ↦ first i x le (get_split between rest i x lt (subst (λ l. slice_get l i ≡ Some x) same e))
        | inr ge ↦ then i x ge e
      ]

  -- ---- one more

  pub new_pushed : (old : List A) (y : A) → P (length old) y → NewIn P old (old ++ y ∷ [])
  new_pushed old y p i x le e =
      elim (get_push_cases old y i x e) [
        | inl h ↦ absurd (omega (arith, le, slice_get_within old i x h))
        | inr h ↦ subst (λ k. P k x) (sym h.0) (subst (λ z. P (length old) z) h.1 p)
      ]

  pub pushed_new : (old : List A) (y : A) → NewIn P old (old ++ y ∷ []) → P (length old) y
  pushed_new old y h = h (length old) y (omega arith) (get_pushed old y)

  -- ---- one that begins, and then is whole

  module _ (old : List A) (y z : A) (m rest : List A) (grown : m ≡ (old ++ y ∷ []) ++ rest) where
    there : length old < length m
    there =
        let begun : suc (length old) ≤ length (old ++ y ∷ []) = pushed_length old y in
        subst (λ l. length old < length l) (sym grown) (omega (arith, begun, length_joined (old ++ y ∷ []) rest))
      where
        pushed_length : (xs : List A) (y : A) → suc (length xs) ≤ length (xs ++ y ∷ [])
        pushed_length [] y = omega arith
        pushed_length (x ∷ xs) y = omega (arith, pushed_length xs y)

    begun_length : length (old ++ y ∷ []) ≡ suc (length old)
    begun_length = pushed old
      where
        pushed : (xs : List A) → length (xs ++ y ∷ []) ≡ suc (length xs)
        pushed [] = refl
        pushed (x ∷ xs) = ap (λ n. suc n) (pushed xs)

    pub whole_new : NewIn P old (slice_set m (length old) z) → P (length old) z
    whole_new h = h (length old) z (omega arith) (set_same m (length old) z there)

    pub inside_new : NewIn P old (slice_set m (length old) z) → NewIn P (old ++ y ∷ []) m
    inside_new h i x le e =
        h i x (omega (arith, le, begun_length))
        (set_other m (length old) i z (λ same. absurd (omega (arith, le, begun_length, same))) ∙ e)

    pub new_whole : P (length old) z → NewIn P (old ++ y ∷ []) m → NewIn P old (slice_set m (length old) z)
    new_whole p h i x le e =
        elim (at_or_above (length old) i le) [
          | inl same ↦ subst (λ k. P k x) (sym same) (subst (λ w. P (length old) w) (at_same i x same e) p)
          | inr above ↦ h i x (omega (arith, above, begun_length))
              (sym (set_other m (length old) i z (λ same. absurd (omega (arith, above, same)))) ∙ e)
        ]
      where
        some_same : (a b : A) → Some a ≡ Some b → a ≡ b
        some_same a b e = cc

        at_same : (i : ℕ) (x : A) → i ≡ length old → slice_get (slice_set m (length old) z) i ≡ Some x → z ≡ x
        at_same i x same e =
            some_same z x (sym (set_same m (length old) z there)
            ∙ subst (λ k. slice_get (slice_set m (length old) z) k ≡ Some x) same e)
