-- Lists of what breaks rules, as they grow, and in order of their questions.
use Rattle.std.proofs.Common.{◌≡◌, ℕ, ◌+◌, ◌<◌, ◌⊎◌, inl, inr, Bool, true, false, List, [], ◌∷◌, map, refl, sym, ◌∙◌, subst, arith}
use Rattle.std.proofs.lemmas.Cmp.{nat_cmp_total, nat_list_cmp_total, on_total, then_total}
use Rattle.std.proofs.lemmas.List.Sorted.{ranks_by}
use Rattle.std.specs.Cmp.{IsTotalOrder, IsStrictWeakOrder}
use Rattle.std.specs.declared.cmp.Ordering.{Ordering}
use Rattle.std.specs.declared.cmp.Ordering.TheVariants.{Less, Equal, Greater}
use Rattle.std.specs.Ordering.{MatchOrdering, is_lt, is_eq}
use Rattle.std.specs.Prelude.{Contains, if◌then◌else◌}
use Rattle.own_tree.specs.declared.finding.Finding.{Finding}
use Rattle.own_tree.specs.declared.place.Place.{Place}
use Rattle.own_tree.specs.declared.span.Span.{Span}
use Rattle.own_paths.specs.Findings.{Precedes, Rising, rule_number}
use Rattle.own_paths.proofs.Orders.{findings_are_ordered}
use Rattle.own_shapes.proofs.Lists.{In, in_contains, contains_in}
use Rattle.own_breaks.specs.Settling.{span_cmp, place_cmp, asked_place, question, IsSameQuestion, question_cmp, IsNoWorse, is_better, offered, Gathers}
use Rattle.own_breaks.proofs.Best.{asked_first, same_back, no_worse_itself, no_worse_on}
use Rattle.own_breaks.proofs.Ranks.{question_ranked, better, no_better, same_apart, same_asked}
use Rattle.own_breaks.proofs.Ranks.{asked_first as before_of_two}

-- ---- what grows

pub gathers_none : (Is : Finding → Type 0) (xs : List Finding) → ((f : Finding) → Is f → ⊥) → Gathers Is xs xs
gathers_none Is xs none = record {
  sound = λ f c. inl c;
  complete = λ f h. elim h [ inl c ↦ (f, c, no_worse_itself f) | inr i ↦ absurd (none f i) ];
}

pub gathers_as : (P Q : Finding → Type 0) (xs ys : List Finding) → ((f : Finding) → P f → Q f) → ((f : Finding) → Q f → P f) → Gathers P xs ys → Gathers Q xs ys
gathers_as P Q xs ys to from g = record {
  sound = λ f c. elim (g.sound f c) [ inl h ↦ inl h | inr p ↦ inr (to f p) ];
  complete = λ f h. g.complete f (elim h [ inl c ↦ inl c | inr q ↦ inr (from f q) ]);
}

pub gathers_on : (P Q : Finding → Type 0) (xs ys zs : List Finding) → Gathers P xs ys → Gathers Q ys zs → Gathers (λ f. P f ⊎ Q f) xs zs
gathers_on P Q xs ys zs a b = record {
  sound = λ f c. elim (b.sound f c) [
    | inl h ↦ elim (a.sound f h) [ inl x ↦ inl x | inr p ↦ inr (inl p) ]
    | inr q ↦ inr (inr q)
  ];
  complete = λ f h. elim h [
    | inl c ↦ further f (a.complete f (inl c))
    | inr (inl p) ↦ further f (a.complete f (inr p))
    | inr (inr q) ↦ b.complete f (inr q)
  ];
}
  where
    further : (f : Finding) → ((g : Finding) × Contains ys g × IsNoWorse g f) → (g : Finding) × Contains zs g × IsNoWorse g f
    further f g = let h = b.complete g.0 (inl g.1) in (h.0, h.1, no_worse_on h.0 g.0 f h.2 g.2)

below : (j k : ℕ) → j < k + 1 → (j < k) ⊎ (j ≡ k)
below j k lt = grind arith

-- one number more
pub gathers_more : (P : ℕ → Finding → Type 0) (k : ℕ) (xs ys zs : List Finding) → Gathers (λ f. (j : ℕ) × (j < k) × P j f) xs ys → Gathers (P k) ys zs
    → Gathers (λ f. (j : ℕ) × (j < k + 1) × P j f) xs zs
gathers_more P k xs ys zs a b =
    gathers_as (λ f. ((j : ℕ) × (j < k) × P j f) ⊎ P k f) (λ f. (j : ℕ) × (j < k + 1) × P j f) xs zs to from
    (gathers_on (λ f. (j : ℕ) × (j < k) × P j f) (P k) xs ys zs a b)
  where
    to : (f : Finding) → ((j : ℕ) × (j < k) × P j f) ⊎ P k f → (j : ℕ) × (j < k + 1) × P j f
    to f (inl h) = (h.0, omega (arith, h.1), h.2)
    to f (inr h) = (k, omega arith, h)

    at : (f : Finding) (j : ℕ) → j < k + 1 → P j f → (j < k) ⊎ (j ≡ k) → ((j : ℕ) × (j < k) × P j f) ⊎ P k f
    at f j lt h (inl less) = inl (j, less, h)
    at f j lt h (inr same) = inr (subst (λ i. P i f) same h)

    from : (f : Finding) → (j : ℕ) × (j < k + 1) × P j f → ((j : ℕ) × (j < k) × P j f) ⊎ P k f
    from f h = at f h.0 h.1 h.2 (below h.0 k h.1)

-- ---- one more

offered_in : (xs : List Finding) (f g : Finding) → In (offered xs f) g → In xs g ⊎ (g ≡ f)
offered_in [] f g (inl e) = inr (sym e)
offered_in [] f g (inr h) = absurd h
offered_in (x ∷ y ∷ xs) f g (inl e) = inl (inl e)
offered_in (x ∷ y ∷ xs) f g (inr h) = elim (offered_in (y ∷ xs) f g h) [ inl i ↦ inl (inr i) | inr e ↦ inr e ]
offered_in (x ∷ []) f g h = cases (is_eq (question_cmp x f)) h
  where
    either : (b : Bool) → In (if b then f ∷ [] else x ∷ []) g → In (x ∷ []) g ⊎ (g ≡ f)
    either true (inl e) = inr (sym e)
    either true (inr i) = absurd i
    either false (inl e) = inl (inl e)
    either false (inr i) = absurd i

    cases : (b : Bool) → In (if b then (if is_better f x then f ∷ [] else x ∷ []) else x ∷ f ∷ []) g → In (x ∷ []) g ⊎ (g ≡ f)
    cases true i = either (is_better f x) i
    cases false (inl e) = inl (inl e)
    cases false (inr (inl e)) = inr (sym e)
    cases false (inr (inr i)) = absurd i

Served : List Finding → Finding → Type 0
Served ys g = (h : Finding) × In ys h × IsNoWorse h g

offered_serves : (xs : List Finding) (f g : Finding) → In xs g ⊎ (g ≡ f) → Served (offered xs f) g
unfolding Served
offered_serves [] f g (inl h) = absurd h
offered_serves [] f g (inr e) = (f, inl refl, subst (λ x. IsNoWorse f x) (sym e) (no_worse_itself f))
offered_serves (x ∷ y ∷ xs) f g (inl (inl e)) = (g, inl e, no_worse_itself g)
offered_serves (x ∷ y ∷ xs) f g (inl (inr h)) = let s = offered_serves (y ∷ xs) f g (inl h) in (s.0, inr s.1, s.2)
offered_serves (x ∷ y ∷ xs) f g (inr e) = let s = offered_serves (y ∷ xs) f g (inr e) in (s.0, inr s.1, s.2)
offered_serves (x ∷ []) f g h = cases (is_eq (question_cmp x f)) refl
  where
    this : (ys : List Finding) → In ys x → IsNoWorse x f → In (x ∷ []) g ⊎ (g ≡ f) → (h : Finding) × In ys h × IsNoWorse h g
    this ys i w (inl (inl e)) = (x, i, subst (λ z. IsNoWorse x z) e (no_worse_itself x))
    this ys i w (inl (inr n)) = absurd n
    this ys i w (inr e) = (x, i, subst (λ z. IsNoWorse x z) (sym e) w)

    that : (ys : List Finding) → In ys f → IsNoWorse f x → In (x ∷ []) g ⊎ (g ≡ f) → (h : Finding) × In ys h × IsNoWorse h g
    that ys i w (inl (inl e)) = (f, i, subst (λ z. IsNoWorse f z) e w)
    that ys i w (inl (inr n)) = absurd n
    that ys i w (inr e) = (f, i, subst (λ z. IsNoWorse f z) (sym e) (no_worse_itself f))

    both : In (x ∷ []) g ⊎ (g ≡ f) → (h : Finding) × In (x ∷ f ∷ []) h × IsNoWorse h g
    both (inl (inl e)) = (x, inl refl, subst (λ z. IsNoWorse x z) e (no_worse_itself x))
    both (inl (inr n)) = absurd n
    both (inr e) = (f, inr (inl refl), subst (λ z. IsNoWorse f z) (sym e) (no_worse_itself f))

    better_of : IsSameQuestion x f → (b : Bool) → is_better f x ≡ b → (h : Finding) × In (if b then f ∷ [] else x ∷ []) h × IsNoWorse h g
    better_of s true e = that (f ∷ []) (inl refl) (same_back x f s, better f x e) h
    better_of s false e = this (x ∷ []) (inl refl) (s, no_better f x e) h

    cases : (b : Bool) → is_eq (question_cmp x f) ≡ b → (h : Finding) × In (if b then (if is_better f x then f ∷ [] else x ∷ []) else x ∷ f ∷ []) h × IsNoWorse h g
    cases true e = better_of (same_asked x f e) (is_better f x) refl
    cases false e = both h

pub gathers_offered : (xs : List Finding) (f : Finding) → Gathers (λ g. g ≡ f) xs (offered xs f)
unfolding Served
gathers_offered xs f = record {
  sound = λ g c. elim (offered_in xs f g (in_contains (offered xs f) g c)) [ inl i ↦ inl (contains_in xs g i) | inr e ↦ inr e ];
  complete = λ g h.
      let s = offered_serves xs f g (elim h [ inl c ↦ inl (in_contains xs g c) | inr e ↦ inr e ]) in (s.0, contains_in (offered xs f) s.0 s.1, s.2);
}

-- the best of these alone
pub gathers_best : (Is : Finding → Type 0) (xs : List Finding) (f : Finding) → Is f → ((g : Finding) → Is g → IsNoWorse f g) → Gathers Is xs (offered xs f)
gathers_best Is xs f is best = record {
  sound = λ g c. elim (one.sound g c) [ inl h ↦ inl h | inr e ↦ inr (subst Is (sym e) is) ];
  complete = λ g h. elim h [
    | inl c ↦ one.complete g (inl c)
    | inr i ↦ let s = one.complete f (inr refl) in (s.0, s.1, no_worse_on s.0 f g s.2 (best g i))
  ];
}
  where
    one : Gathers (λ g. g ≡ f) xs (offered xs f)
    one = gathers_offered xs f

-- ---- in order

span_total : IsTotalOrder span_cmp
span_total = then_total (on_total (λ (s : Span). s.start) nat_cmp_total) (on_total (λ (s : Span). s.end) nat_cmp_total)

place_total : IsTotalOrder place_cmp
place_total = then_total (on_total (λ (p : Place). p.binding) nat_cmp_total) (on_total (λ (p : Place). p.fields) nat_list_cmp_total)

question_total : IsTotalOrder question_cmp
question_total =
    then_total (on_total (λ (f : Finding). f.span) span_total)
    (then_total (on_total (λ (f : Finding). rule_number f.rule) nat_cmp_total) (on_total (λ (f : Finding). asked_place f.rule f.place) place_total))

pub questions_rank : IsStrictWeakOrder (λ (f g : Finding). is_lt (question_cmp f g))
questions_rank = ranks_by question_total (λ (f : Finding). f)

-- before one that is asked no earlier than another
still_before : (g h f : Finding) → Precedes (question g) (question h) → is_lt (question_cmp f h) ≡ false → Precedes (question g) (question f)
still_before g h f before never = at (question_cmp f h) (question_ranked f h) never
  where
    same : IsSameQuestion f h → Precedes (question g) (question f)
    same s = elim (findings_are_ordered.total (question g) (question f)) [
      | inl done ↦ done
      | inr (inl alike) ↦ absurd (same_apart (question g) (question h) (alike.0 ∙ s.0, alike.1 ∙ s.1, alike.2 ∙ s.2) before)
      | inr (inr after) ↦ absurd (same_apart (question f) (question h) s (findings_are_ordered.onward (question f) (question g) (question h) after before))
    ]

    at : (o : Ordering) → MatchOrdering o (Precedes (question f) (question h)) (IsSameQuestion f h) (Precedes (question h) (question f)) → is_lt o ≡ false → Precedes (question g) (question f)
    at Less m e = absurd cc
    at Equal m e = same m
    at Greater m e = findings_are_ordered.onward (question g) (question h) (question f) before m

rising_with : (g : Finding) (ys : List Finding) → ((y : Finding) → In ys y → Precedes (question g) (question y)) → Rising (map question ys) → Rising (map question (g ∷ ys))
rising_with g [] all r = tt
rising_with g (y ∷ ys) all r = (all y (inl refl), r)

rest_rises : (g : Finding) (ys : List Finding) → Rising (map question (g ∷ ys)) → Rising (map question ys)
rest_rises g [] r = tt
rest_rises g (y ∷ ys) r = r.1

-- where none is asked after it
pub rising_offered : (xs : List Finding) (f : Finding) → Rising (map question xs) → ((x : Finding) → In xs x → is_lt (question_cmp f x) ≡ false)
    → Rising (map question (offered xs f))
rising_offered [] f r never = tt
rising_offered (x ∷ []) f r never = cases (is_eq (question_cmp x f)) refl
  where
    one : (b : Bool) → Rising (map question (if b then f ∷ [] else x ∷ []))
    one true = tt
    one false = tt

    cases : (b : Bool) → is_eq (question_cmp x f) ≡ b → Rising (map question (if b then (if is_better f x then f ∷ [] else x ∷ []) else x ∷ f ∷ []))
    cases true e = one (is_better f x)
    cases false e = (before_of_two x f (never x (inl refl)) e, tt)
rising_offered (x ∷ y ∷ xs) f r never =
    rising_with x (offered (y ∷ xs) f) first (rising_offered (y ∷ xs) f r.1 (λ z i. never z (inr i)))
  where
    first : (z : Finding) → In (offered (y ∷ xs) f) z → Precedes (question x) (question z)
    first z i = elim (offered_in (y ∷ xs) f z i) [
      | inl old ↦ asked_first x (y ∷ xs) r z old
      | inr new ↦ subst (λ w. Precedes (question x) (question w)) (sym new) (still_before x y f r.0 (never y (inr (inl refl))))
    ]
