-- What comparing spans, places and questions says of their order.
use Rattle.std.proofs.Common.{◌≡◌, ℕ, ◌<◌, ◌⊎◌, inl, inr, true, false, List, [], ◌∷◌, refl, sym, ap, ◌∙◌, subst, arith}
use Rattle.std.proofs.lemmas.Cmp.{ranked}
use Rattle.std.specs.Cmp.Lexicographic.{slice_cmp}
use Rattle.std.specs.declared.cmp.Ordering.{Ordering}
use Rattle.std.specs.declared.cmp.Ordering.TheVariants.{Less, Equal, Greater}
use Rattle.std.specs.Ordering.{MatchOrdering, is_lt, is_eq, nat_cmp, ordering_then}
use Rattle.own_tree.specs.declared.finding.Finding.{Finding}
use Rattle.own_tree.specs.declared.finding.Rule.{Rule}
use Rattle.own_tree.specs.declared.place.Place.{Place}
use Rattle.own_tree.specs.declared.span.Span.{Span}
use Rattle.own_paths.specs.Findings.{SpanBefore, IsFirstLeaf, Precedes, IsSameBreak, rule_number}
use Rattle.own_paths.proofs.Orders.{findings_are_ordered, span_apart}
use Rattle.own_shapes.specs.Places.{FieldsBefore, PlaceBefore, whole}
use Rattle.own_shapes.proofs.PlaceOrder.{place_apart}
use Rattle.own_breaks.specs.Settling.{span_cmp, place_cmp, asked_place, question, IsSameQuestion, question_cmp, is_better}

-- two comparisons, one after the other
pub then_ranked : (P Q R P' Q' R' : Type 0) (A B C : Type 0) (a b : Ordering) → MatchOrdering a P Q R → MatchOrdering b P' Q' R'
    → (P → A) → (Q → P' → A) → (Q → Q' → B) → (Q → R' → C) → (R → C) → MatchOrdering (ordering_then a b) A B C
then_ranked P Q R P' Q' R' A B C Less b m n less eq_less eq eq_more more = less m
then_ranked P Q R P' Q' R' A B C Greater b m n less eq_less eq eq_more more = more m
then_ranked P Q R P' Q' R' A B C Equal Less m n less eq_less eq eq_more more = eq_less m n
then_ranked P Q R P' Q' R' A B C Equal Equal m n less eq_less eq eq_more more = eq m n
then_ranked P Q R P' Q' R' A B C Equal Greater m n less eq_less eq eq_more more = eq_more m n

numbers_ranked : (x y : ℕ) → MatchOrdering (nat_cmp x y) (x < y) (x ≡ y) (y < x)
numbers_ranked x y = ranked x y (nat_cmp x y) refl

fields_ranked : (ks ls : List ℕ) → MatchOrdering (slice_cmp nat_cmp ks ls) (FieldsBefore ks ls) (ks ≡ ls) (FieldsBefore ls ks)
fields_ranked [] [] = refl
fields_ranked [] (l ∷ ls) = tt
fields_ranked (k ∷ ks) [] = tt
fields_ranked (k ∷ ks) (l ∷ ls) =
    then_ranked (k < l) (k ≡ l) (l < k) (FieldsBefore ks ls) (ks ≡ ls) (FieldsBefore ls ks)
    (FieldsBefore (k ∷ ks) (l ∷ ls)) (k ∷ ks ≡ l ∷ ls) (FieldsBefore (l ∷ ls) (k ∷ ks)) (nat_cmp k l) (slice_cmp nat_cmp ks ls)
    (numbers_ranked k l) (fields_ranked ks ls)
    (λ a. inl a) (λ e a. inr (e, a)) (λ e f. ap (λ x. x ∷ ks) e ∙ ap (λ xs. l ∷ xs) f) (λ e a. inr (sym e, a)) (λ a. inl a)

pub place_ranked : (p q : Place) → MatchOrdering (place_cmp p q) (PlaceBefore p q) (p ≡ q) (PlaceBefore q p)
place_ranked p q =
    then_ranked (p.binding < q.binding) (p.binding ≡ q.binding) (q.binding < p.binding)
    (FieldsBefore p.fields q.fields) (p.fields ≡ q.fields) (FieldsBefore q.fields p.fields)
    (PlaceBefore p q) (p ≡ q) (PlaceBefore q p) (nat_cmp p.binding q.binding) (slice_cmp nat_cmp p.fields q.fields)
    (numbers_ranked p.binding q.binding) (fields_ranked p.fields q.fields)
    (λ a. inl a) (λ e a. inr (e, a)) (λ e f. λ j. record { binding = e j; fields = f j }) (λ e a. inr (sym e, a)) (λ a. inl a)

pub span_ranked : (a b : Span) → MatchOrdering (span_cmp a b) (SpanBefore a b) (a ≡ b) (SpanBefore b a)
span_ranked a b =
    then_ranked (a.start < b.start) (a.start ≡ b.start) (b.start < a.start) (a.end < b.end) (a.end ≡ b.end) (b.end < a.end)
    (SpanBefore a b) (a ≡ b) (SpanBefore b a) (nat_cmp a.start b.start) (nat_cmp a.end b.end)
    (numbers_ranked a.start b.start) (numbers_ranked a.end b.end)
    (λ h. inl h) (λ e h. inr (e, h)) (λ e f. λ j. record { start = e j; end = f j }) (λ e h. inr (sym e, h)) (λ h. inl h)

-- ---- rules

a_span : Span
a_span = record { start = 0; end = 0 }

a_finding : Rule → Finding
a_finding r = record { rule = r; span = record { start = 0; end = 0 }; place = whole 0; cause = record { start = 0; end = 0 } }

not_before : (r s : Rule) → rule_number r ≡ rule_number s → Precedes (a_finding r) (a_finding s) → ⊥
unfolding a_finding
not_before r s e (inl h) = span_apart (record { start = 0; end = 0 }) h
not_before r s e (inr h) = elim h.1 [
  | inl less ↦ omega (arith, less, e)
  | inr same ↦ place_apart (whole 0) same.1
]

pub same_rule : (r s : Rule) → rule_number r ≡ rule_number s → r ≡ s
unfolding a_finding
same_rule r s e = elim (findings_are_ordered.total (a_finding r) (a_finding s)) [
  | inl before ↦ absurd (not_before r s e before)
  | inr (inl same) ↦ same.0
  | inr (inr after) ↦ absurd (not_before s r (sym e) after)
]

-- ---- questions

abbrev Lower : Finding → Finding → Type 0
Lower f g = (rule_number f.rule < rule_number g.rule) ⊎ ((f.rule ≡ g.rule) × PlaceBefore f.place g.place)

abbrev Alike : Finding → Finding → Type 0
Alike f g = (f.rule ≡ g.rule) × (f.place ≡ g.place)

lower_ranked : (f g : Finding)
    → MatchOrdering (ordering_then (nat_cmp (rule_number f.rule) (rule_number g.rule)) (place_cmp f.place g.place)) (Lower f g) (Alike f g) (Lower g f)
lower_ranked f g =
    then_ranked (rule_number f.rule < rule_number g.rule) (rule_number f.rule ≡ rule_number g.rule) (rule_number g.rule < rule_number f.rule)
    (PlaceBefore f.place g.place) (f.place ≡ g.place) (PlaceBefore g.place f.place)
    (Lower f g) (Alike f g) (Lower g f) (nat_cmp (rule_number f.rule) (rule_number g.rule)) (place_cmp f.place g.place)
    (numbers_ranked (rule_number f.rule) (rule_number g.rule)) (place_ranked f.place g.place)
    (λ h. inl h) (λ e h. inr (same_rule f.rule g.rule e, h)) (λ e h. (same_rule f.rule g.rule e, h))
    (λ e h. inr (sym (same_rule f.rule g.rule e), h)) (λ h. inl h)

pub question_ranked : (f g : Finding)
    → MatchOrdering (question_cmp f g) (Precedes (question f) (question g)) (IsSameQuestion f g) (Precedes (question g) (question f))
question_ranked f g =
    then_ranked (SpanBefore f.span g.span) (f.span ≡ g.span) (SpanBefore g.span f.span)
    (Lower (question f) (question g)) (Alike (question f) (question g)) (Lower (question g) (question f))
    (Precedes (question f) (question g)) (IsSameQuestion f g) (Precedes (question g) (question f))
    (span_cmp f.span g.span)
    (ordering_then (nat_cmp (rule_number f.rule) (rule_number g.rule)) (place_cmp (asked_place f.rule f.place) (asked_place g.rule g.place)))
    (span_ranked f.span g.span) (lower_ranked (question f) (question g))
    (λ h. inl h) (λ e h. inr (e, h)) (λ e h. (h.0, e, h.1)) (λ e h. inr (sym e, h)) (λ h. inl h)

-- ---- which of one question is better

pub best_ranked : (f g : Finding)
    → MatchOrdering (ordering_then (span_cmp f.cause g.cause) (place_cmp f.place g.place)) (IsFirstLeaf f g.place g.cause) ((f.cause ≡ g.cause) × (f.place ≡ g.place)) (IsFirstLeaf g f.place f.cause)
best_ranked f g =
    then_ranked (SpanBefore f.cause g.cause) (f.cause ≡ g.cause) (SpanBefore g.cause f.cause)
    (PlaceBefore f.place g.place) (f.place ≡ g.place) (PlaceBefore g.place f.place)
    (IsFirstLeaf f g.place g.cause) ((f.cause ≡ g.cause) × (f.place ≡ g.place)) (IsFirstLeaf g f.place f.cause)
    (span_cmp f.cause g.cause) (place_cmp f.place g.place) (span_ranked f.cause g.cause) (place_ranked f.place g.place)
    (λ h. inl h) (λ e h. inr (e, inr h)) (λ e h. (e, h)) (λ e h. inr (sym e, inr h)) (λ h. inl h)

pub better : (f g : Finding) → is_better f g ≡ true → IsFirstLeaf f g.place g.cause
better f g e = at (ordering_then (span_cmp f.cause g.cause) (place_cmp f.place g.place)) (best_ranked f g) e
  where
    at : (o : Ordering) → MatchOrdering o (IsFirstLeaf f g.place g.cause) ((f.cause ≡ g.cause) × (f.place ≡ g.place)) (IsFirstLeaf g f.place f.cause) → is_lt o ≡ true → IsFirstLeaf f g.place g.cause
    at Less m h = m
    at Equal m h = cc
    at Greater m h = cc

pub no_better : (f g : Finding) → is_better f g ≡ false → IsFirstLeaf g f.place f.cause
no_better f g e = at (ordering_then (span_cmp f.cause g.cause) (place_cmp f.place g.place)) (best_ranked f g) e
  where
    at : (o : Ordering) → MatchOrdering o (IsFirstLeaf f g.place g.cause) ((f.cause ≡ g.cause) × (f.place ≡ g.place)) (IsFirstLeaf g f.place f.cause) → is_lt o ≡ false → IsFirstLeaf g f.place f.cause
    at Less m h = cc
    at Equal m h = inr (sym m.0, inl (sym m.1))
    at Greater m h = m

pub asked_before : (f g : Finding) → is_lt (question_cmp f g) ≡ true → Precedes (question f) (question g)
asked_before f g e = at (question_cmp f g) (question_ranked f g) e
  where
    at : (o : Ordering) → MatchOrdering o (Precedes (question f) (question g)) (IsSameQuestion f g) (Precedes (question g) (question f)) → is_lt o ≡ true → Precedes (question f) (question g)
    at Less m h = m
    at Equal m h = cc
    at Greater m h = cc

-- two of one break are in no order
pub same_apart : (f g : Finding) → IsSameBreak f g → Precedes f g → ⊥
same_apart f g e (inl h) = span_apart f.span (subst (λ s. SpanBefore f.span s) (sym e.1) h)
same_apart f g e (inr h) = elim h.1 [
  | inl less ↦ omega (arith, less, ap rule_number e.0)
  | inr same ↦ place_apart f.place (subst (λ p. PlaceBefore f.place p) (sym e.2) same.1)
]

pub same_asked : (f g : Finding) → is_eq (question_cmp f g) ≡ true → IsSameQuestion f g
same_asked f g e = at (question_cmp f g) (question_ranked f g) e
  where
    at : (o : Ordering) → MatchOrdering o (Precedes (question f) (question g)) (IsSameQuestion f g) (Precedes (question g) (question f)) → is_eq o ≡ true → IsSameQuestion f g
    at Less m h = cc
    at Equal m h = m
    at Greater m h = cc

-- one that is neither asked after another nor of the same question is asked before it
pub asked_first : (f g : Finding) → is_lt (question_cmp g f) ≡ false → is_eq (question_cmp f g) ≡ false → Precedes (question f) (question g)
asked_first f g e d = at (question_cmp f g) (question_ranked f g) d
  where
    back : (o : Ordering) → MatchOrdering o (Precedes (question g) (question f)) (IsSameQuestion g f) (Precedes (question f) (question g)) → is_lt o ≡ false
        → Precedes (question g) (question f) → Precedes (question f) (question g)
    back Less m h after = cc
    back Equal m h after = absurd (same_apart (question g) (question f) m after)
    back Greater m h after = m

    at : (o : Ordering) → MatchOrdering o (Precedes (question f) (question g)) (IsSameQuestion f g) (Precedes (question g) (question f)) → is_eq o ≡ false → Precedes (question f) (question g)
    at Less m h = m
    at Equal m h = cc
    at Greater m h = back (question_cmp g f) (question_ranked g f) e m
