-- Spans, and the places of a list, have no endless descent.
use Rattle.std.proofs.Common.{◌≡◌, ℕ, zero, suc, ◌<◌, ◌≤◌, ◌+◌, ◌⊎◌, List, [], ◌∷◌, inl, inr, refl, sym, subst, arith}
use Rattle.own_tree.specs.declared.place.Place.{Place}
use Rattle.own_tree.specs.declared.span.Span.{Span}
use Rattle.own_paths.specs.Findings.{SpanBefore}
use Rattle.own_shapes.specs.Places.{PlaceBefore}
use Rattle.own_shapes.proofs.Lists.{In}
use Rattle.own_shapes.proofs.PlaceOrder.{place_apart, place_on, places}

-- ---- numbers and spans

below : (P : ℕ → Type 0) → ((n : ℕ) → ((m : ℕ) → m < n → P m) → P n) → (n m : ℕ) → m < n → P m
below P step zero m lt = absurd (omega (arith, lt))
below P step (suc n) m lt = step m (λ j l. below P step n j (omega (arith, l, lt)))

pub each_number : (P : ℕ → Type 0) → ((n : ℕ) → ((m : ℕ) → m < n → P m) → P n) → (n : ℕ) → P n
each_number P step n = below P step (suc n) n (omega arith)

pub each_span : (P : Span → Type 0) → ((s : Span) → ((t : Span) → SpanBefore t s → P t) → P s) → (s : Span) → P s
each_span P step s =
    each_number (λ a. (e : ℕ) → P (record { start = a; end = e }))
    (λ a outer. each_number (λ e. P (record { start = a; end = e })) (λ e inner. step (record { start = a; end = e }) (earlier a e outer inner))) s.start s.end
  where
    earlier : (a e : ℕ) → ((b : ℕ) → b < a → (f : ℕ) → P (record { start = b; end = f })) → ((f : ℕ) → f < e → P (record { start = a; end = f }))
        → (t : Span) → SpanBefore t (record { start = a; end = e }) → P t
    earlier a e outer inner t (inl less) = outer t.start less t.end
    earlier a e outer inner t (inr same) = subst (λ b. P (record { start = b; end = t.end })) (sym same.0) (inner t.end same.1)

-- ---- places of a list, by how many of them stand before

counts : {A B C : Type 0} → A ⊎ B ⊎ C → ℕ
counts (inl a) = 1
counts (inr b) = 0

rank : Place → List Place → ℕ
rank x [] = 0
rank x (y ∷ ys) = counts (places y x) + rank x ys

-- what stands before the first stands before the second too
counted_on : (z x y : Place) → PlaceBefore y x → (a : PlaceBefore z y ⊎ (z ≡ y) ⊎ PlaceBefore y z) (b : PlaceBefore z x ⊎ (z ≡ x) ⊎ PlaceBefore x z) → counts a ≤ counts b
unfolding counts
counted_on z x y h (inl a) (inl b) = omega arith
counted_on z x y h (inl a) (inr (inl b)) = absurd (place_apart x (place_on x y x (subst (λ w. PlaceBefore w y) b a) h))
counted_on z x y h (inl a) (inr (inr b)) = absurd (place_apart x (place_on x y x (place_on x z y b a) h))
counted_on z x y h (inr a) b = omega arith

-- the first counts for the second, and not for itself
counted_once : (x y : Place) → PlaceBefore y x → (a : PlaceBefore y y ⊎ (y ≡ y) ⊎ PlaceBefore y y) (b : PlaceBefore y x ⊎ (y ≡ x) ⊎ PlaceBefore x y) → counts a < counts b
unfolding counts
counted_once x y h (inl a) b = absurd (place_apart y a)
counted_once x y h (inr a) (inl b) = omega arith
counted_once x y h (inr a) (inr (inl b)) = absurd (place_apart x (subst (λ w. PlaceBefore w x) b h))
counted_once x y h (inr a) (inr (inr b)) = absurd (place_apart x (place_on x y x b h))

rank_on : (x y : Place) → PlaceBefore y x → (zs : List Place) → rank y zs ≤ rank x zs
unfolding rank
rank_on x y h [] = omega arith
rank_on x y h (z ∷ zs) = omega (arith, counted_on z x y h (places z y) (places z x), rank_on x y h zs)

rank_falls : (x y : Place) → PlaceBefore y x → (zs : List Place) → In zs y → rank y zs < rank x zs
unfolding rank
rank_falls x y h [] i = absurd i
rank_falls x y h (z ∷ zs) (inl e) =
    let first : counts (places z y) < counts (places z x) = subst (λ w. counts (places w y) < counts (places w x)) (sym e) (counted_once x y h (places y y) (places y x)) in
    omega (arith, first, rank_on x y h zs)
rank_falls x y h (z ∷ zs) (inr i) = omega (arith, counted_on z x y h (places z y) (places z x), rank_falls x y h zs i)

pub each_place : (xs : List Place) (P : Place → Type 0) → ((x : Place) → In xs x → ((y : Place) → In xs y → PlaceBefore y x → P y) → P x)
    → (x : Place) → In xs x → P x
each_place xs P step x i = each_number (λ n. (y : Place) → In xs y → rank y xs ≡ n → P y) ranked (rank x xs) x i refl
  where
    ranked : (n : ℕ) → ((m : ℕ) → m < n → (y : Place) → In xs y → rank y xs ≡ m → P y) → (y : Place) → In xs y → rank y xs ≡ n → P y
    ranked n lower y j e = step y j (λ z k before. lower (rank z xs) (subst (λ m. rank z xs < m) e (rank_falls y z before xs k)) z k refl)
