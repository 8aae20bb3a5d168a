-- The best breaks of each question are the findings.
use Rattle.std.proofs.Common.{◌≡◌, ◌<◌, ◌⊎◌, inl, inr, List, [], ◌∷◌, map, refl, sym, ap, ◌∙◌, subst}
use Rattle.std.specs.Prelude.{Contains}
use Rattle.own_tree.specs.declared.finding.Finding.{Finding}
use Rattle.own_tree.specs.declared.finding.Rule.{Rule}
use Rattle.own_tree.specs.declared.finding.Rule.TheVariants as rule
use Rattle.own_tree.specs.declared.place.Place.{Place}
use Rattle.own_tree.specs.declared.span.Span.{Span}
use Rattle.own_paths.specs.Findings.{rule_number, SpanBefore, IsNotAfter, IsFirstLeaf, Precedes, Rising, BreaksAtOp, BreaksAtReturn, IsLeastCause, IsLeastLeaf, IsPathFinding, IsPathFindingBy, ArePathFindings}
use Rattle.own_paths.specs.Makers.{BodyUses}
use Rattle.own_paths.proofs.Orders.{findings_are_ordered, span_apart, span_on}
use Rattle.own_shapes.specs.Places.{PlaceBefore, whole}
use Rattle.own_shapes.proofs.Lists.{In, in_contains}
use Rattle.own_shapes.proofs.PlaceOrder.{place_apart, place_on}
use Rattle.own_breaks.specs.Settling.{asked_place, question, IsSameQuestion, IsNoWorse, AreBest, BreaksBy, Breaks}
use Rattle.own_breaks.proofs.Ranks.{same_apart}

-- ---- no worse

pub first_itself : (f : Finding) → IsFirstLeaf f f.place f.cause
first_itself f = inr (refl, inl refl)

pub first_on : (f g h : Finding) → IsFirstLeaf f g.place g.cause → IsFirstLeaf g h.place h.cause → IsFirstLeaf f h.place h.cause
first_on f g h (inl a) (inl b) = inl (span_on f.cause g.cause h.cause a b)
first_on f g h (inl a) (inr b) = inl (subst (λ s. SpanBefore f.cause s) b.0 a)
first_on f g h (inr a) (inl b) = inl (subst (λ s. SpanBefore s h.cause) (sym a.0) b)
first_on f g h (inr a) (inr b) = inr (a.0 ∙ b.0, places a.1 b.1)
  where
    places : (f.place ≡ g.place) ⊎ PlaceBefore f.place g.place → (g.place ≡ h.place) ⊎ PlaceBefore g.place h.place → (f.place ≡ h.place) ⊎ PlaceBefore f.place h.place
    places (inl c) (inl d) = inl (c ∙ d)
    places (inl c) (inr d) = inr (subst (λ p. PlaceBefore p h.place) (sym c) d)
    places (inr c) (inl d) = inr (subst (λ p. PlaceBefore f.place p) d c)
    places (inr c) (inr d) = inr (place_on f.place g.place h.place c d)

pub first_both : (f g : Finding) → IsFirstLeaf f g.place g.cause → IsFirstLeaf g f.place f.cause → (f.cause ≡ g.cause) × (f.place ≡ g.place)
first_both f g (inl a) (inl b) = absurd (span_apart f.cause (span_on f.cause g.cause f.cause a b))
first_both f g (inl a) (inr b) = absurd (span_apart f.cause (subst (λ s. SpanBefore f.cause s) b.0 a))
first_both f g (inr a) (inl b) = absurd (span_apart g.cause (subst (λ s. SpanBefore g.cause s) a.0 b))
first_both f g (inr a) (inr b) = (a.0, places a.1 b.1)
  where
    places : (f.place ≡ g.place) ⊎ PlaceBefore f.place g.place → (g.place ≡ f.place) ⊎ PlaceBefore g.place f.place → f.place ≡ g.place
    places (inl c) d = c
    places (inr c) (inl d) = sym d
    places (inr c) (inr d) = absurd (place_apart f.place (place_on f.place g.place f.place c d))

pub same_back : (f g : Finding) → IsSameQuestion f g → IsSameQuestion g f
same_back f g s = (sym s.0, sym s.1, sym s.2)

pub same_on : (f g h : Finding) → IsSameQuestion f g → IsSameQuestion g h → IsSameQuestion f h
same_on f g h s t = (s.0 ∙ t.0, s.1 ∙ t.1, s.2 ∙ t.2)

pub no_worse_itself : (f : Finding) → IsNoWorse f f
no_worse_itself f = ((refl, refl, refl), first_itself f)

pub no_worse_on : (f g h : Finding) → IsNoWorse f g → IsNoWorse g h → IsNoWorse f h
no_worse_on f g h a b = (same_on f g h a.0 b.0, first_on f g h a.1 b.1)

-- ---- questions in order

asked_rest : (f : Finding) (fs : List Finding) → Rising (map question (f ∷ fs)) → Rising (map question fs)
asked_rest f [] r = tt
asked_rest f (g ∷ fs) r = r.1

pub asked_first : (f : Finding) (fs : List Finding) → Rising (map question (f ∷ fs)) → (g : Finding) → In fs g → Precedes (question f) (question g)
asked_first f [] r g h = absurd h
asked_first f (x ∷ fs) r g (inl e) = subst (λ y. Precedes (question f) (question y)) e r.0
asked_first f (x ∷ fs) r g (inr h) = findings_are_ordered.onward (question f) (question x) (question g) r.0 (asked_first x fs r.1 g h)

pub asked_once : (fs : List Finding) → Rising (map question fs) → (f g : Finding) → In fs f → In fs g → IsSameQuestion f g → f ≡ g
asked_once [] r f g h i s = absurd h
asked_once (x ∷ fs) r f g (inl a) (inl b) s = sym a ∙ b
asked_once (x ∷ fs) r f g (inl a) (inr b) s =
    absurd (same_apart (question f) (question g) s (subst (λ y. Precedes (question y) (question g)) a (asked_first x fs r g b)))
asked_once (x ∷ fs) r f g (inr a) (inl b) s =
    absurd (same_apart (question g) (question f) (same_back f g s) (subst (λ y. Precedes (question y) (question f)) b (asked_first x fs r f a)))
asked_once (x ∷ fs) r f g (inr a) (inr b) s = asked_once fs (asked_rest x fs r) f g a b s

-- in order of their questions they are in order
in_order : (r : Rule) (f g : Finding) → f.rule ≡ r → Precedes (question f) (question g) → Precedes f g
in_order r f g e (inl h) = inl h
in_order r f g e (inr h) = inr (h.0, lower h.1)
  where
    by_place : (r : Rule) → f.rule ≡ r → g.rule ≡ r → PlaceBefore (asked_place f.rule f.place) (asked_place g.rule g.place) → PlaceBefore (asked_place r f.place) (asked_place r g.place)
    by_place r a b p = subst (λ x. PlaceBefore (asked_place r f.place) (asked_place x g.place)) b (subst (λ x. PlaceBefore (asked_place x f.place) (asked_place g.rule g.place)) a p)

    at : (r : Rule) → PlaceBefore (asked_place r f.place) (asked_place r g.place) → PlaceBefore f.place g.place
    at rule.O3 p = absurd (place_apart (whole 0) p)
    at rule.O5 p = absurd (place_apart (whole 0) p)
    at rule.O1 p = p
    at rule.O2 p = p
    at rule.O4 p = p
    at rule.O6 p = p
    at rule.O7 p = p
    at rule.O8 p = p
    at rule.O9 p = p
    at rule.O10 p = p
    at rule.O11 p = p
    at rule.F1 p = p

    lower : (rule_number f.rule < rule_number g.rule) ⊎ ((f.rule ≡ g.rule) × PlaceBefore (asked_place f.rule f.place) (asked_place g.rule g.place))
        → (rule_number f.rule < rule_number g.rule) ⊎ ((f.rule ≡ g.rule) × PlaceBefore f.place g.place)
    lower (inl less) = inl less
    lower (inr same) = inr (same.0, at r (by_place r e (sym same.0 ∙ e) same.1))

pub rising_itself : (fs : List Finding) → Rising (map question fs) → Rising fs
rising_itself [] r = tt
rising_itself (f ∷ []) r = tt
rising_itself (f ∷ g ∷ fs) r = (in_order f.rule f g refl r.0, rising_itself (g ∷ fs) r.1)

-- ---- a finding is a break that is no worse than the others of its question

same_place : (r : Rule) (p q : Place) → ((r ≡ rule.O3) → ⊥) → ((r ≡ rule.O5) → ⊥) → asked_place r p ≡ asked_place r q → p ≡ q
same_place rule.O3 p q a b e = absurd (a refl)
same_place rule.O5 p q a b e = absurd (b refl)
same_place rule.O1 p q a b e = e
same_place rule.O2 p q a b e = e
same_place rule.O4 p q a b e = e
same_place rule.O6 p q a b e = e
same_place rule.O7 p q a b e = e
same_place rule.O8 p q a b e = e
same_place rule.O9 p q a b e = e
same_place rule.O10 p q a b e = e
same_place rule.O11 p q a b e = e
same_place rule.F1 p q a b e = e

module _ (uses : BodyUses) where
  abbrev pub IsBest : Finding → Type 0
  IsBest f = (g : Finding) → Breaks uses g → IsSameQuestion f g → IsFirstLeaf f g.place g.cause

  with_cause : Finding → Span → Finding
  with_cause f cause = record { rule = f.rule; span = f.span; place = f.place; cause = cause }

  -- ---- ops

  least_of : (r : Rule) (f : Finding) → ((g : Finding) → g.rule ≡ r → BreaksAtOp uses g.rule g.span g.place g.cause → Breaks uses g) → f.rule ≡ r
      → BreaksAtOp uses f.rule f.span f.place f.cause → IsBest f → IsLeastCause uses f
  unfolding with_cause
  least_of r f up e b best = record { breaks = b; least = λ cause d. not_after cause (best (with_cause f cause) (up (with_cause f cause) e d) (refl, refl, refl)) }
    where
      not_after : (cause : Span) → IsFirstLeaf f f.place cause → IsNotAfter f.cause cause
      not_after cause (inl h) = inr h
      not_after cause (inr h) = inl h.0

  best_of : (r : Rule) (f : Finding) → ((r ≡ rule.O3) → ⊥) → ((r ≡ rule.O5) → ⊥) → f.rule ≡ r
      → ((g : Finding) → g.rule ≡ r → Breaks uses g → BreaksAtOp uses g.rule g.span g.place g.cause)
      → IsLeastCause uses f → IsBest f
  best_of r f no3 no5 e down l g b s = first (l.least g.cause moved)
    where
      place : f.place ≡ g.place
      place = same_place r f.place g.place no3 no5 (sym (ap (λ x. asked_place x f.place) e) ∙ s.2 ∙ ap (λ x. asked_place x g.place) (sym s.0 ∙ e))

      moved : BreaksAtOp uses f.rule f.span f.place g.cause
      moved = subst (λ x. BreaksAtOp uses x f.span f.place g.cause) (sym s.0) (subst (λ x. BreaksAtOp uses g.rule x f.place g.cause) (sym s.1)
          (subst (λ x. BreaksAtOp uses g.rule g.span x g.cause) (sym place) (down g (sym s.0 ∙ e) b)))

      first : IsNotAfter f.cause g.cause → IsFirstLeaf f g.place g.cause
      first (inl same) = inr (same, inl place)
      first (inr before) = inl before

  -- ---- returns

  with_leaf : Finding → Place → Span → Finding
  with_leaf f leaf cause = record { rule = f.rule; span = f.span; place = leaf; cause = cause }

  leaf_of : (r : Rule) (f : Finding) → ((p q : Place) → asked_place r p ≡ asked_place r q)
      → ((g : Finding) → g.rule ≡ r → BreaksAtReturn uses g.rule g.span g.place g.cause → Breaks uses g) → f.rule ≡ r
      → BreaksAtReturn uses f.rule f.span f.place f.cause → IsBest f → IsLeastLeaf uses f
  unfolding with_leaf
  leaf_of r f all up e b best = record {
    breaks = b;
    least = λ leaf cause d. best (with_leaf f leaf cause) (up (with_leaf f leaf cause) e d)
        (refl, refl, subst (λ x. asked_place x f.place ≡ asked_place x leaf) (sym e) (all f.place leaf));
  }

  first_of : (r : Rule) (f : Finding) → f.rule ≡ r → ((g : Finding) → g.rule ≡ r → Breaks uses g → BreaksAtReturn uses g.rule g.span g.place g.cause)
      → IsLeastLeaf uses f → IsBest f
  first_of r f e down l g b s =
      l.least g.place g.cause (subst (λ x. BreaksAtReturn uses x f.span g.place g.cause) (sym s.0)
      (subst (λ x. BreaksAtReturn uses g.rule x g.place g.cause) (sym s.1) (down g (sym s.0 ∙ e) b)))

  -- ---- by rule

  up : (r : Rule) (g : Finding) → g.rule ≡ r → BreaksBy uses r g → Breaks uses g
  up r g e b = subst (λ x. BreaksBy uses x g) (sym e) b

  down : (r : Rule) (g : Finding) → g.rule ≡ r → Breaks uses g → BreaksBy uses r g
  down r g e b = subst (λ x. BreaksBy uses x g) e b

  best_finding : (r : Rule) (f : Finding) → f.rule ≡ r → BreaksBy uses r f → IsBest f → IsPathFindingBy uses r f
  best_finding rule.O1 f e b best = least_of rule.O1 f (up rule.O1) e b best
  best_finding rule.O2 f e b best = least_of rule.O2 f (up rule.O2) e b best
  best_finding rule.O4 f e b best = least_of rule.O4 f (up rule.O4) e b best
  best_finding rule.O6 f e b best = least_of rule.O6 f (up rule.O6) e b best
  best_finding rule.O3 f e b best = leaf_of rule.O3 f (λ p q. refl) (up rule.O3) e b best
  best_finding rule.O5 f e b best = leaf_of rule.O5 f (λ p q. refl) (up rule.O5) e b best
  best_finding rule.F1 f e b best = b
  best_finding rule.O7 f e b best = b
  best_finding rule.O8 f e b best = b
  best_finding rule.O9 f e b best = b
  best_finding rule.O10 f e b best = b
  best_finding rule.O11 f e b best = b

  finding_breaks : (r : Rule) (f : Finding) → IsPathFindingBy uses r f → BreaksBy uses r f
  finding_breaks rule.O1 f l = l.breaks
  finding_breaks rule.O2 f l = l.breaks
  finding_breaks rule.O4 f l = l.breaks
  finding_breaks rule.O6 f l = l.breaks
  finding_breaks rule.O3 f l = l.breaks
  finding_breaks rule.O5 f l = l.breaks
  finding_breaks rule.F1 f l = l
  finding_breaks rule.O7 f l = l
  finding_breaks rule.O8 f l = l
  finding_breaks rule.O9 f l = l
  finding_breaks rule.O10 f l = l
  finding_breaks rule.O11 f l = l

  finding_best : (r : Rule) (f : Finding) → f.rule ≡ r → IsPathFindingBy uses r f → IsBest f
  finding_best rule.O1 f e l = best_of rule.O1 f (λ x. cc) (λ x. cc) e (down rule.O1) l
  finding_best rule.O2 f e l = best_of rule.O2 f (λ x. cc) (λ x. cc) e (down rule.O2) l
  finding_best rule.O4 f e l = best_of rule.O4 f (λ x. cc) (λ x. cc) e (down rule.O4) l
  finding_best rule.O6 f e l = best_of rule.O6 f (λ x. cc) (λ x. cc) e (down rule.O6) l
  finding_best rule.O3 f e l = first_of rule.O3 f e (down rule.O3) l
  finding_best rule.O5 f e l = first_of rule.O5 f e (down rule.O5) l
  finding_best rule.F1 f e l = λ g b s. let d = down rule.F1 g (sym s.0 ∙ e) b in inr (l.cause_is ∙ sym d.cause_is, inl (l.place_is ∙ sym d.place_is))
  finding_best rule.O7 f e l = absurd l
  finding_best rule.O8 f e l = absurd l
  finding_best rule.O9 f e l = absurd l
  finding_best rule.O10 f e l = absurd l
  finding_best rule.O11 f e l = absurd l

  -- ---- the theorem

  module _ (all best : List Finding) (sound : (f : Finding) → Contains all f → Breaks uses f)
      (complete : (f : Finding) → Breaks uses f → (g : Finding) × Contains all g × IsNoWorse g f) (are : AreBest all best) where
    -- of what breaks a rule there is one among the best that is no worse
    served : (f : Finding) → Breaks uses f → (g : Finding) × Contains best g × IsNoWorse g f
    served f b =
        let g = complete f b in let h = are.complete g.0 g.1 in (h.0, h.1, no_worse_on h.0 g.0 f h.2 g.2)

    is_finding : (f : Finding) → Contains best f → IsPathFinding uses f
    is_finding f c = best_finding f.rule f refl (sound f (are.sound f c)) least
      where
        least : IsBest f
        least g b s =
            let h = served g b in
            let same : h.0 ≡ f = asked_once best are.rising h.0 f (in_contains best h.0 h.1) (in_contains best f c) (same_on h.0 g f h.2.0 (same_back f g s)) in
            subst (λ x. IsFirstLeaf x g.place g.cause) same h.2.1

    is_best : (f : Finding) → IsPathFinding uses f → Contains best f
    is_best f l = subst (λ x. Contains best x) (sym same) h.1
      where
        h : (g : Finding) × Contains best g × IsNoWorse g f
        h = served f (finding_breaks f.rule f l)

        both : (f.cause ≡ h.0.cause) × (f.place ≡ h.0.place)
        both = first_both f h.0 (finding_best f.rule f refl l h.0 (sound h.0 (are.sound h.0 h.1)) (same_back h.0 f h.2.0)) h.2.1

        same : f ≡ h.0
        same = λ j. record { rule = (sym h.2.0.0) j; span = (sym h.2.0.1) j; place = both.1 j; cause = both.0 j }

    pub best_are_findings : ArePathFindings uses best
    best_are_findings = record { all = λ f. (is_finding f, is_best f); rising = rising_itself best are.rising }
