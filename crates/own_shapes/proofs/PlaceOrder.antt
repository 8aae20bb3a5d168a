-- Places have one order.
use Rattle.std.proofs.Common.{◌≡◌, ℕ, zero, suc, ◌<◌, ◌⊎◌, List, [], ◌∷◌, inl, inr, refl, sym, ap, ◌∙◌, arith}
use Rattle.own_tree.specs.declared.place.Place.{Place}
use Rattle.own_shapes.specs.Laws.{PlacesAreOrdered}
use Rattle.own_shapes.specs.Places.{FieldsBefore, PlaceBefore}

-- ---- before is strict

fields_apart : (ks : List ℕ) → FieldsBefore ks ks → ⊥
fields_apart [] h = h
fields_apart (k ∷ ks) (inl h) = omega (arith, h)
fields_apart (k ∷ ks) (inr h) = fields_apart ks h.1

fields_on : (ks ls ms : List ℕ) → FieldsBefore ks ls → FieldsBefore ls ms → FieldsBefore ks ms
fields_on ks ls [] a b = absurd b
fields_on ks [] (m ∷ ms) a b = absurd a
fields_on [] (l ∷ ls) (m ∷ ms) a b = tt
fields_on (k ∷ ks) (l ∷ ls) (m ∷ ms) (inl a) (inl b) = inl (omega (arith, a, b))
fields_on (k ∷ ks) (l ∷ ls) (m ∷ ms) (inl a) (inr b) = inl (omega (arith, a, b.0))
fields_on (k ∷ ks) (l ∷ ls) (m ∷ ms) (inr a) (inl b) = inl (omega (arith, a.0, b))
fields_on (k ∷ ks) (l ∷ ls) (m ∷ ms) (inr a) (inr b) = inr (a.0 ∙ b.0, fields_on ks ls ms a.1 b.1)

pub place_apart : (p : Place) → PlaceBefore p p → ⊥
place_apart p (inl h) = omega (arith, h)
place_apart p (inr h) = fields_apart p.fields h.1

pub place_on : (p q r : Place) → PlaceBefore p q → PlaceBefore q r → PlaceBefore p r
place_on p q r (inl a) (inl b) = inl (omega (arith, a, b))
place_on p q r (inl a) (inr b) = inl (omega (arith, a, b.0))
place_on p q r (inr a) (inl b) = inl (omega (arith, a.0, b))
place_on p q r (inr a) (inr b) = inr (a.0 ∙ b.0, fields_on p.fields q.fields r.fields a.1 b.1)

-- ---- each two are in order or alike

pub numbers : (m n : ℕ) → (m < n) ⊎ (m ≡ n) ⊎ (n < m)
numbers zero zero = inr (inl refl)
numbers zero (suc n) = inl (omega arith)
numbers (suc m) zero = inr (inr (omega arith))
numbers (suc m) (suc n) = elim (numbers m n) [
  | inl less ↦ inl (omega (arith, less))
  | inr (inl same) ↦ inr (inl (ap suc same))
  | inr (inr more) ↦ inr (inr (omega (arith, more)))
]

fields : (ks ls : List ℕ) → FieldsBefore ks ls ⊎ (ks ≡ ls) ⊎ FieldsBefore ls ks
fields [] [] = inr (inl refl)
fields [] (l ∷ ls) = inl tt
fields (k ∷ ks) [] = inr (inr tt)
fields (k ∷ ks) (l ∷ ls) = elim (numbers k l) [
  | inl less ↦ inl (inl less)
  | inr (inr more) ↦ inr (inr (inl more))
  | inr (inl same) ↦ elim (fields ks ls) [
    | inl before ↦ inl (inr (same, before))
    | inr (inl alike) ↦ inr (inl (ap (λ x. x ∷ ks) same ∙ ap (λ x. l ∷ x) alike))
    | inr (inr after) ↦ inr (inr (inr (sym same, after)))
  ]
]

same_place : (p q : Place) → p.binding ≡ q.binding → p.fields ≡ q.fields → p ≡ q
same_place p q a b = λ j. record { binding = a j; fields = b j }

pub places : (p q : Place) → PlaceBefore p q ⊎ (p ≡ q) ⊎ PlaceBefore q p
places p q = elim (numbers p.binding q.binding) [
  | inl less ↦ inl (inl less)
  | inr (inr more) ↦ inr (inr (inl more))
  | inr (inl same) ↦ elim (fields p.fields q.fields) [
    | inl before ↦ inl (inr (same, before))
    | inr (inl alike) ↦ inr (inl (same_place p q same alike))
    | inr (inr after) ↦ inr (inr (inr (sym same, after)))
  ]
]

pub places_are_ordered : PlacesAreOrdered
places_are_ordered = record { apart = place_apart; onward = place_on; total = places }
