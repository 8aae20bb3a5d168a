-- Findings have one order, and two lists of the same findings, each in order, are the same list.
use Rattle.std.proofs.Common.{◌≡◌, ℕ, zero, suc, ◌<◌, ◌⊎◌, List, [], ◌∷◌, inl, inr, refl, sym, ap, ◌∙◌, subst, arith}
use Rattle.own_tree.specs.declared.finding.Finding.{Finding}
use Rattle.own_tree.specs.declared.finding.Rule.{Rule}
use Rattle.own_tree.specs.declared.finding.Rule.TheVariants as rule
use Rattle.own_tree.specs.declared.span.Span.{Span}
use Rattle.own_shapes.specs.Places.{PlaceBefore}
use Rattle.own_paths.specs.Findings.{rule_number, SpanBefore, IsNotAfter, Precedes, Rising, IsSameBreak, AreAll}
use Rattle.own_paths.specs.Laws.{FindingsAreOrdered}
use Rattle.own_shapes.proofs.Lists.{In, in_contains, contains_in}
use Rattle.own_shapes.proofs.PlaceOrder.{place_apart, place_on, numbers, places}

-- ---- before is strict

pub span_apart : (s : Span) → SpanBefore s s → ⊥
span_apart s (inl h) = omega (arith, h)
span_apart s (inr h) = omega (arith, h.1)

pub span_on : (s t u : Span) → SpanBefore s t → SpanBefore t u → SpanBefore s u
span_on s t u (inl a) (inl b) = inl (omega (arith, a, b))
span_on s t u (inl a) (inr b) = inl (omega (arith, a, b.0))
span_on s t u (inr a) (inl b) = inl (omega (arith, a.0, b))
span_on s t u (inr a) (inr b) = inr (a.0 ∙ b.0, omega (arith, a.1, b.1))

precedes_apart : (f : Finding) → Precedes f f → ⊥
precedes_apart f (inl h) = span_apart f.span h
precedes_apart f (inr h) = elim h.1 [
  | inl less ↦ omega (arith, less)
  | inr same ↦ place_apart f.place same.1
]

abbrev Lower : Finding → Finding → Type 0
Lower f g = (rule_number f.rule < rule_number g.rule) ⊎ ((f.rule ≡ g.rule) × PlaceBefore f.place g.place)

lower_on : (f g h : Finding) → Lower f g → Lower g h → Lower f h
lower_on f g h (inl a) (inl b) = inl (omega (arith, a, b))
lower_on f g h (inl a) (inr b) = inl (subst (λ r. rule_number f.rule < rule_number r) b.0 a)
lower_on f g h (inr a) (inl b) = inl (subst (λ r. rule_number r < rule_number h.rule) (sym a.0) b)
lower_on f g h (inr a) (inr b) = inr (a.0 ∙ b.0, place_on f.place g.place h.place a.1 b.1)

precedes_on : (f g h : Finding) → Precedes f g → Precedes g h → Precedes f h
precedes_on f g h (inl a) (inl b) = inl (span_on f.span g.span h.span a b)
precedes_on f g h (inl a) (inr b) = inl (subst (λ s. SpanBefore f.span s) b.0 a)
precedes_on f g h (inr a) (inl b) = inl (subst (λ s. SpanBefore s h.span) (sym a.0) b)
precedes_on f g h (inr a) (inr b) = inr (a.0 ∙ b.0, lower_on f g h a.1 b.1)

-- ---- lists in order

rising_rest : (f : Finding) (fs : List Finding) → Rising (f ∷ fs) → Rising fs
rising_rest f [] r = tt
rising_rest f (g ∷ fs) r = r.1

-- the first one precedes each other
first_precedes : (f : Finding) (fs : List Finding) → Rising (f ∷ fs) → (g : Finding) → In fs g → Precedes f g
first_precedes f [] r g h = absurd h
first_precedes f (x ∷ fs) r g (inl e) = subst (Precedes f) e r.0
first_precedes f (x ∷ fs) r g (inr h) = precedes_on f x g r.0 (first_precedes x fs r.1 g h)

abbrev Within : List Finding → List Finding → Type 0
Within fs gs = (f : Finding) → In fs f → In gs f

-- what is left after the same first one
rest_within : (f : Finding) (fs gs : List Finding) → Rising (f ∷ fs) → Within (f ∷ fs) (f ∷ gs) → Within fs gs
rest_within f fs gs r within g h = not_first (within g (inr h))
  where
    not_first : In (f ∷ gs) g → In gs g
    not_first (inl e) = absurd (precedes_apart f (subst (Precedes f) (sym e) (first_precedes f fs r g h)))
    not_first (inr later) = later

same_first : (f g : Finding) (fs gs : List Finding) → Rising (f ∷ fs) → Rising (g ∷ gs) → In (g ∷ gs) f → In (f ∷ fs) g → f ≡ g
same_first f g fs gs r s (inl e) b = sym e
same_first f g fs gs r s (inr a) (inl e) = e
same_first f g fs gs r s (inr a) (inr b) = absurd (precedes_apart f (precedes_on f g f (first_precedes f fs r g b) (first_precedes g gs s f a)))

same_lists : (fs gs : List Finding) → Rising fs → Rising gs → Within fs gs → Within gs fs → fs ≡ gs
same_lists [] [] r s a b = refl
same_lists [] (g ∷ gs) r s a b = absurd (b g (inl refl))
same_lists (f ∷ fs) [] r s a b = absurd (a f (inl refl))
same_lists (f ∷ fs) (g ∷ gs) r s a b =
    let first = same_first f g fs gs r s (a f (inl refl)) (b g (inl refl)) in
    let s' = subst (λ x. Rising (x ∷ gs)) (sym first) s in
    let a' = subst (λ x. Within (f ∷ fs) (x ∷ gs)) (sym first) a in
    let b' = subst (λ x. Within (x ∷ gs) (f ∷ fs)) (sym first) b in
    let rest = same_lists fs gs (rising_rest f fs r) (rising_rest f gs s') (rest_within f fs gs r a') (rest_within f gs fs s' b') in
    ap (λ x. x ∷ fs) first ∙ ap (λ l. g ∷ l) rest

-- ---- each two are in order or alike

same_span : (a b : Span) → a.start ≡ b.start → a.end ≡ b.end → a ≡ b
same_span a b p q = λ j. record { start = p j; end = q j }

pub spans : (a b : Span) → SpanBefore a b ⊎ (a ≡ b) ⊎ SpanBefore b a
spans a b = elim (numbers a.start b.start) [
  | inl less ↦ inl (inl less)
  | inr (inr more) ↦ inr (inr (inl more))
  | inr (inl same) ↦ elim (numbers a.end b.end) [
    | inl less ↦ inl (inr (same, less))
    | inr (inl alike) ↦ inr (inl (same_span a b same alike))
    | inr (inr more) ↦ inr (inr (inr (sym same, more)))
  ]
]

rule_of : ℕ → Rule
rule_of zero = rule.O1
rule_of (suc zero) = rule.O2
rule_of (suc (suc zero)) = rule.O3
rule_of (suc (suc (suc zero))) = rule.O4
rule_of (suc (suc (suc (suc zero)))) = rule.O5
rule_of (suc (suc (suc (suc (suc zero))))) = rule.O6
rule_of (suc (suc (suc (suc (suc (suc zero)))))) = rule.O7
rule_of (suc (suc (suc (suc (suc (suc (suc zero))))))) = rule.O8
rule_of (suc (suc (suc (suc (suc (suc (suc (suc zero)))))))) = rule.O9
rule_of (suc (suc (suc (suc (suc (suc (suc (suc (suc zero))))))))) = rule.O10
rule_of (suc (suc (suc (suc (suc (suc (suc (suc (suc (suc zero)))))))))) = rule.O11
rule_of (suc (suc (suc (suc (suc (suc (suc (suc (suc (suc (suc n))))))))))) = rule.F1

rule_back : (r : Rule) → rule_of (rule_number r) ≡ r
unfolding rule_of
rule_back rule.O1 = refl
rule_back rule.O2 = refl
rule_back rule.O3 = refl
rule_back rule.O4 = refl
rule_back rule.O5 = refl
rule_back rule.O6 = refl
rule_back rule.O7 = refl
rule_back rule.O8 = refl
rule_back rule.O9 = refl
rule_back rule.O10 = refl
rule_back rule.O11 = refl
rule_back rule.F1 = refl

same_rule : (r s : Rule) → rule_number r ≡ rule_number s → r ≡ s
same_rule r s e = sym (rule_back r) ∙ ap rule_of e ∙ rule_back s

findings : (f g : Finding) → Precedes f g ⊎ IsSameBreak f g ⊎ Precedes g f
findings f g = elim (spans f.span g.span) [
  | inl before ↦ inl (inl before)
  | inr (inr after) ↦ inr (inr (inl after))
  | inr (inl span) ↦ elim (numbers (rule_number f.rule) (rule_number g.rule)) [
    | inl less ↦ inl (inr (span, inl less))
    | inr (inr more) ↦ inr (inr (inr (sym span, inl more)))
    | inr (inl number) ↦ elim (places f.place g.place) [
      | inl before ↦ inl (inr (span, inr (same_rule f.rule g.rule number, before)))
      | inr (inl place) ↦ inr (inl (same_rule f.rule g.rule number, span, place))
      | inr (inr after) ↦ inr (inr (inr (sym span, inr (sym (same_rule f.rule g.rule number), after))))
    ]
  ]
]

pub findings_are_ordered : FindingsAreOrdered
findings_are_ordered = record { apart = precedes_apart; onward = precedes_on; total = findings }

-- two spans none of which is after the other
pub neither_after : (a b : Span) → IsNotAfter a b → IsNotAfter b a → a ≡ b
neither_after a b (inl same) after = same
neither_after a b (inr before) (inl same) = sym same
neither_after a b (inr before) (inr after) = absurd (span_apart a (span_on a b a before after))

-- All findings of a kind stand in one list.
pub one_list : (Is : Finding → Type 0) (fs gs : List Finding) → AreAll Is fs → AreAll Is gs → fs ≡ gs
one_list Is fs gs a b = same_lists fs gs a.rising b.rising (within fs gs a b) (within gs fs b a)
  where
    within : (xs ys : List Finding) → AreAll Is xs → AreAll Is ys → Within xs ys
    within xs ys x y f h = in_contains ys f ((y.all f).1 ((x.all f).0 (contains_in xs f h)))
