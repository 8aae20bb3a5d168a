-- The order of breaks: by the comparison of the code each comes before the next, or is the same break with a cause that
-- is not after that of the next.
use Rattle.std.proofs.Common.{◌≡◌, ℕ, suc, ◌+◌, ◌<◌, ◌⊎◌, Bool, false, List, [], ◌∷◌, map, inl, inr, refl, sym, ap, ◌∙◌, subst, arith}
use Rattle.std.specs.Prelude.{IsSortedBy, IsSortedByKey, slice_index_or}
use Rattle.std.specs.Borrow.{Bor}
use Rattle.std.specs.Fn.{Called, ComparesAs}
use denote.Param.Members.{Mut}
use Rattle.std.specs.declared.cmp.Ordering.{Ordering}
use Rattle.std.specs.declared.cmp.Ordering.TheVariants.{Less, Equal, Greater}
use Rattle.std.specs.Ordering.{nat_cmp, ordering_then, ordering_reverse, is_lt, is_eq}
use Rattle.std.specs.Cmp.{IsTotalOrder, IsStrictWeakOrder}
use Rattle.std.specs.Cmp.Lexicographic.{slice_cmp}
use Rattle.std.proofs.lemmas.Bool.{false≢true}
use Rattle.std.proofs.lemmas.Cmp.{ranked, by_ranked, nat_cmp_total, nat_list_cmp_total, on_total, then_total, tied_itself}
use Rattle.std.proofs.lemmas.Fn.{always_returns_same}
use Rattle.std.proofs.lemmas.List.Sorted.{ranks_by}
use Rattle.own_tree.specs.declared.finding.Finding.{Finding}
use Rattle.own_tree.specs.declared.finding.Rule.{Rule}
use Rattle.own_tree.specs.declared.place.Place.{Place}
use Rattle.own_tree.specs.declared.span.Span.{Span}
use Rattle.own_paths.specs.Findings.{rule_number, SpanBefore, IsNotAfter, Precedes, IsSameBreak}
use Rattle.own_paths.proofs.Orders.{spans, span_on, findings_are_ordered}
use Rattle.own_shapes.specs.Places.{FieldsBefore, PlaceBefore}
use Rattle.own_excl.specs.declared.breaks.Break.{Break}
use Rattle.own_excl.specs.View.{break_view}
use Rattle.own_excl.specs.Order.{break_cmp, cause_cmp, finding_cmp}

-- ---- comparisons of parts

less_is : (a b : ℕ) → a < b → nat_cmp a b ≡ Less
less_is a b lt =
    by_ranked (a < b) (a ≡ b) (b < a) (nat_cmp a b) (ranked a b (nat_cmp a b) refl) (λ e h. e) (λ e h. absurd (omega (arith, h, lt))) (λ e h. absurd (omega (arith, h, lt)))

same_is : (a b : ℕ) → a ≡ b → nat_cmp a b ≡ Equal
same_is a b same =
    by_ranked (a < b) (a ≡ b) (b < a) (nat_cmp a b) (ranked a b (nat_cmp a b) refl) (λ e h. absurd (omega (arith, h, same))) (λ e h. e) (λ e h. absurd (omega (arith, h, same)))

first : (o p : Ordering) → o ≡ Less → ordering_then o p ≡ Less
first o p e = ap (λ x. ordering_then x p) e

second : (o p : Ordering) → o ≡ Equal → ordering_then o p ≡ p
second o p e = ap (λ x. ordering_then x p) e

fields_less : (ks ls : List ℕ) → FieldsBefore ks ls → slice_cmp nat_cmp ks ls ≡ Less
fields_less ks [] h = absurd h
fields_less [] (l ∷ ls) h = refl
fields_less (k ∷ ks) (l ∷ ls) (inl h) = first (nat_cmp k l) (slice_cmp nat_cmp ks ls) (less_is k l h)
fields_less (k ∷ ks) (l ∷ ls) (inr h) = second (nat_cmp k l) (slice_cmp nat_cmp ks ls) (same_is k l h.0) ∙ fields_less ks ls h.1

-- ---- of spans, rules and places

abbrev span_order : Span → Span → Ordering → Ordering
span_order a b o = ordering_then (nat_cmp a.start b.start) (ordering_then (nat_cmp a.end b.end) o)

span_less : (a b : Span) (o : Ordering) → SpanBefore a b → span_order a b o ≡ Less
span_less a b o (inl h) = first (nat_cmp a.start b.start) (ordering_then (nat_cmp a.end b.end) o) (less_is a.start b.start h)
span_less a b o (inr h) =
    second (nat_cmp a.start b.start) (ordering_then (nat_cmp a.end b.end) o) (same_is a.start b.start h.0) ∙ first (nat_cmp a.end b.end) o (less_is a.end b.end h.1)

span_same : (a b : Span) (o : Ordering) → a ≡ b → span_order a b o ≡ o
span_same a b o e =
    second (nat_cmp a.start b.start) (ordering_then (nat_cmp a.end b.end) o) (same_is a.start b.start (ap (λ (s : Span). s.start) e))
    ∙ second (nat_cmp a.end b.end) o (same_is a.end b.end (ap (λ (s : Span). s.end) e))

abbrev place_order : Place → Place → Ordering
place_order p q = ordering_then (nat_cmp p.binding q.binding) (slice_cmp nat_cmp p.fields q.fields)

place_less : (p q : Place) → PlaceBefore p q → place_order p q ≡ Less
place_less p q (inl h) = first (nat_cmp p.binding q.binding) (slice_cmp nat_cmp p.fields q.fields) (less_is p.binding q.binding h)
place_less p q (inr h) =
    second (nat_cmp p.binding q.binding) (slice_cmp nat_cmp p.fields q.fields) (same_is p.binding q.binding h.0) ∙ fields_less p.fields q.fields h.1

place_same : (p q : Place) → p ≡ q → place_order p q ≡ Equal
place_same p q e =
    second (nat_cmp p.binding q.binding) (slice_cmp nat_cmp p.fields q.fields) (same_is p.binding q.binding (ap (λ (x : Place). x.binding) e))
    ∙ ap (λ (x : Place). slice_cmp nat_cmp p.fields x.fields) (sym e) ∙ tied_itself nat_list_cmp_total p.fields

abbrev rule_order : Finding → Finding → Ordering
rule_order f g = ordering_then (nat_cmp (rule_number f.rule) (rule_number g.rule)) (place_order f.place g.place)

-- ---- of breaks

pub precedes_less : (f g : Finding) → Precedes f g → break_cmp f g ≡ Less
precedes_less f g (inl h) = span_less f.span g.span (rule_order f g) h
precedes_less f g (inr h) = span_same f.span g.span (rule_order f g) h.0 ∙ lower h.1
  where
    lower : (rule_number f.rule < rule_number g.rule) ⊎ ((f.rule ≡ g.rule) × PlaceBefore f.place g.place) → rule_order f g ≡ Less
    lower (inl less) = first (nat_cmp (rule_number f.rule) (rule_number g.rule)) (place_order f.place g.place) (less_is (rule_number f.rule) (rule_number g.rule) less)
    lower (inr same) =
        second (nat_cmp (rule_number f.rule) (rule_number g.rule)) (place_order f.place g.place) (same_is (rule_number f.rule) (rule_number g.rule) (ap rule_number same.0))
        ∙ place_less f.place g.place same.1

pub same_equal : (f g : Finding) → IsSameBreak f g → break_cmp f g ≡ Equal
same_equal f g same =
    span_same f.span g.span (rule_order f g) same.1
    ∙ second (nat_cmp (rule_number f.rule) (rule_number g.rule)) (place_order f.place g.place) (same_is (rule_number f.rule) (rule_number g.rule) (ap rule_number same.0))
    ∙ place_same f.place g.place same.2

break_total : IsTotalOrder break_cmp
break_total =
    then_total (on_total (λ (f : Finding). f.span.start) nat_cmp_total)
    (then_total (on_total (λ (f : Finding). f.span.end) nat_cmp_total)
    (then_total (on_total (λ (f : Finding). rule_number f.rule) nat_cmp_total)
    (then_total (on_total (λ (f : Finding). f.place.binding) nat_cmp_total) (on_total (λ (f : Finding). f.place.fields) nat_list_cmp_total))))

pub finding_total : IsTotalOrder finding_cmp
finding_total = then_total break_total (then_total (on_total (λ (f : Finding). f.cause.start) nat_cmp_total) (on_total (λ (f : Finding). f.cause.end) nat_cmp_total))

less_equal : Less ≡ Equal → ⊥
less_equal e = false≢true (sym (ap is_lt e))

greater_equal : Greater ≡ Equal → ⊥
greater_equal e = false≢true (ap is_eq e)

pub equal_same : (f g : Finding) → break_cmp f g ≡ Equal → IsSameBreak f g
equal_same f g e = elim (findings_are_ordered.total f g) [
  | inl before ↦ absurd (less_equal (sym (precedes_less f g before) ∙ e))
  | inr (inl same) ↦ same
  | inr (inr after) ↦ absurd (greater_equal (sym (break_total.antisymm f g ∙ ap ordering_reverse (precedes_less g f after)) ∙ e))
]

-- ---- of causes

cause_less : (f g : Finding) → SpanBefore f.cause g.cause → cause_cmp f g ≡ Less
cause_less f g (inl h) = first (nat_cmp f.cause.start g.cause.start) (nat_cmp f.cause.end g.cause.end) (less_is f.cause.start g.cause.start h)
cause_less f g (inr h) =
    second (nat_cmp f.cause.start g.cause.start) (nat_cmp f.cause.end g.cause.end) (same_is f.cause.start g.cause.start h.0) ∙ less_is f.cause.end g.cause.end h.1

-- ---- one after the other

abbrev pub UpTo : Finding → Finding → Type 0
UpTo f g = Precedes f g ⊎ (IsSameBreak f g × IsNotAfter f.cause g.cause)

not_less : (o : Ordering) → is_lt o ≡ false → o ≡ Less → ⊥
not_less o is e = false≢true (sym is ∙ ap is_lt e)

back : (f g : Finding) → IsSameBreak f g → IsSameBreak g f
back f g same = (sym same.0, sym same.1, sym same.2)

pub up_to : (f g : Finding) → is_lt (finding_cmp g f) ≡ false → UpTo f g
up_to f g not_less_than = elim (findings_are_ordered.total f g) [
  | inl before ↦ inl before
  | inr (inl same) ↦ inr (same, cause same (spans f.cause g.cause))
  | inr (inr after) ↦ absurd (not_less (finding_cmp g f) not_less_than (first (break_cmp g f) (cause_cmp g f) (precedes_less g f after)))
]
  where
    cause : IsSameBreak f g → SpanBefore f.cause g.cause ⊎ (f.cause ≡ g.cause) ⊎ SpanBefore g.cause f.cause → IsNotAfter f.cause g.cause
    cause same (inl before) = inr before
    cause same (inr (inl alike)) = inl alike
    cause same (inr (inr after)) =
        absurd (not_less (finding_cmp g f) not_less_than (second (break_cmp g f) (cause_cmp g f) (same_equal g f (back f g same)) ∙ cause_less g f after))

pub not_after_on : (a b c : Span) → IsNotAfter a b → IsNotAfter b c → IsNotAfter a c
not_after_on a b c (inl e) h = subst (λ s. IsNotAfter s c) (sym e) h
not_after_on a b c (inr h) (inl e) = inr (subst (SpanBefore a) e h)
not_after_on a b c (inr h) (inr i) = inr (span_on a b c h i)

abbrev After : Finding → Span → Rule → Place → Type 0
After f span rule place = SpanBefore f.span span ⊎ ((f.span ≡ span) × ((rule_number f.rule < rule_number rule) ⊎ ((f.rule ≡ rule) × PlaceBefore f.place place)))

abbrev Before : Finding → Span → Rule → Place → Type 0
Before g span rule place = SpanBefore span g.span ⊎ ((span ≡ g.span) × ((rule_number rule < rule_number g.rule) ⊎ ((rule ≡ g.rule) × PlaceBefore place g.place)))

pub precedes_same : (f g h : Finding) → Precedes f g → IsSameBreak g h → Precedes f h
precedes_same f g h p same =
    subst (λ x. After f h.span h.rule x) same.2 (subst (λ r. After f h.span r g.place) same.0 (subst (λ s. After f s g.rule g.place) same.1 p))

pub same_precedes : (f g h : Finding) → IsSameBreak f g → Precedes g h → Precedes f h
same_precedes f g h same p =
    subst (λ x. Before h f.span f.rule x) (sym same.2) (subst (λ r. Before h f.span r g.place) (sym same.0) (subst (λ s. Before h s g.rule g.place) (sym same.1) p))

pub up_to_on : (f g h : Finding) → UpTo f g → UpTo g h → UpTo f h
up_to_on f g h (inl a) (inl b) = inl (findings_are_ordered.onward f g h a b)
up_to_on f g h (inl a) (inr b) = inl (precedes_same f g h a b.0)
up_to_on f g h (inr a) (inl b) = inl (same_precedes f g h a.0 b)
up_to_on f g h (inr a) (inr b) = inr ((a.0.0 ∙ b.0.0, a.0.1 ∙ b.0.1, a.0.2 ∙ b.0.2), not_after_on f.cause g.cause h.cause a.1 b.1)

-- ---- lists in order

abbrev pub Ordered : List Finding → Type 0
Ordered [] = Unit {0}
Ordered (f ∷ []) = Unit {0}
Ordered (f ∷ g ∷ fs) = UpTo f g × Ordered (g ∷ fs)

pub ordered : (bs : List Break) → IsSortedByKey break_view finding_cmp bs → Ordered (map break_view bs)
ordered [] s = tt
ordered (b ∷ []) s = tt
ordered (b ∷ c ∷ bs) s = (up_to (break_view b) (break_view c) (s 0 b (omega arith) (omega arith)), ordered (c ∷ bs) rest)
  where
    rest : IsSortedByKey break_view finding_cmp (c ∷ bs)
    rest k d low within =
        let next : suc k + 1 ≡ suc (k + 1) = omega arith in
        subst (λ n. is_lt (finding_cmp (break_view (slice_index_or (b ∷ c ∷ bs) n d)) (break_view (slice_index_or (b ∷ c ∷ bs) (suc k) d))) ≡ false) next
        (s (suc k) d (omega arith) (omega (arith, within)))

-- from the clause of `sort_by`, where each call compares two breaks
pub sorted_by : {F : Type 0} {g : Mut F (Bor Break × (Bor Break × Unit {0})) Ordering} {f : F} (xs : List Break)
    → ((lt : Break → Break → Bool) → IsStrictWeakOrder lt → ComparesAs g lt f → IsSortedBy lt xs)
    → ((a : Bor Break × (Bor Break × Unit {0})) (r : Ordering) (f' : F) → Called g f a r f' → (r ≡ finding_cmp (break_view a.0.now) (break_view a.1.0.now)) × (f' ≡ f))
    → IsSortedByKey break_view finding_cmp xs
sorted_by {g = g} {f = f} xs up h =
    up (λ x y. is_lt (finding_cmp (break_view x) (break_view y))) (ranks_by finding_total break_view)
    (always_returns_same g (λ a r. is_lt r ≡ is_lt (finding_cmp (break_view a.0.now) (break_view a.1.0.now))) f (λ a r f' k. (ap is_lt (h a r f' k).0, (h a r f' k).1)))
