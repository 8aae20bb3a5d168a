-- Numbers that were read one after another.
use Rattle.std.proofs.Common.{◌≡◌, ◌∙◌, ◌+◌, ◌<◌, ℕ, zero, suc, List, [], ◌∷◌, ◌++◌, map, length, take, get_or, refl, sym, ap, subst, arith}
use Rattle.std.specs.Prelude.{ℤ}
use Rattle.std.specs.Borrow.{Bor}
use Rattle.std.proofs.lemmas.Int.{to_z-of_z}
use mir.Syntax.{w64}
use mir.Val.{of_z, to_z}
use Rattle.own_words.specs.Words.{Text, AreIntegers, IsInteger}

integers_end : (ts : List Text) (zs : List ℤ) (t : Text) (z : ℤ) → AreIntegers ts zs → IsInteger t z → AreIntegers (ts ++ (t ∷ [])) (zs ++ (z ∷ []))
integers_end [] [] t z h is = (is, tt)
integers_end [] (y ∷ ys) t z h is = absurd h
integers_end (s ∷ ts) [] t z h is = absurd h
integers_end (s ∷ ts) (y ∷ ys) t z h is = (h.0, integers_end ts ys t z h.1 is)

-- the texts behind references
abbrev texts_of : List (Bor Text) → List Text
texts_of = map (λ s. s.now)

take_more : (xs : List (Bor Text)) (i : ℕ) (d : Bor Text) → i < length xs → texts_of (take (i + 1) xs) ≡ texts_of (take i xs) ++ ((get_or xs i d).now ∷ [])
take_more [] i d lt = absurd (omega arith)
take_more (y ∷ ys) zero d lt = refl
take_more (y ∷ ys) (suc i) d lt =
    let one : suc i + 1 ≡ suc (i + 1) = omega arith in
    rw one (ap (λ ts. y.now ∷ ts) (take_more ys i d (omega arith)))

-- one number more, which is pushed as 64 bits
pub integers_more : (xs : List (Bor Text)) (zs more : List ℤ) (i : ℕ) (d : Bor Text) (z : ℤ) → i < length xs → AreIntegers (texts_of (take i xs)) zs
    → IsInteger (get_or xs i d).now z → more ≡ zs ++ (to_z w64 (of_z w64 z) ∷ []) → AreIntegers (texts_of (take (i + 1) xs)) more
integers_more xs zs more i d z lt h is e =
    let pushed : more ≡ zs ++ (z ∷ []) = e ∙ ap (λ y. zs ++ (y ∷ [])) (to_z-of_z w64 z is.2) in
    subst (AreIntegers (texts_of (take (i + 1) xs))) (sym pushed)
    (subst (λ ts. AreIntegers ts (zs ++ (z ∷ []))) (sym (take_more xs i d lt)) (integers_end (texts_of (take i xs)) zs (get_or xs i d).now z h is))

-- a text that is no number
pub integers_none : (xs : List (Bor Text)) (zs : List ℤ) (i : ℕ) (d : Bor Text) → i < length xs → ((z : ℤ) → IsInteger (get_or xs i d).now z → ⊥) → AreIntegers (texts_of xs) zs → ⊥
integers_none [] zs i d lt none h = absurd (omega arith)
integers_none (y ∷ ys) [] i d lt none h = h
integers_none (y ∷ ys) (z ∷ zs) zero d lt none h = none z h.0
integers_none (y ∷ ys) (z ∷ zs) (suc i) d lt none h = integers_none ys zs i d (omega arith) none h.1
