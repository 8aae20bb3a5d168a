-- A program without findings breaks no rule: where one is broken, a least break is a finding.
use Rattle.std.proofs.Common.{◌≡◌, ◌⊎◌, List, [], true, inl, inr, refl, sym, subst}
use Rattle.std.specs.Prelude.{Contains}
use Rattle.own_tree.specs.declared.finding.Finding.{Finding}
use Rattle.own_tree.specs.declared.finding.Rule.{Rule}
use Rattle.own_tree.specs.declared.finding.Rule.TheVariants as rule
use Rattle.own_tree.specs.declared.place.Place.{Place}
use Rattle.own_tree.specs.declared.span.Span.{Span}
use Rattle.own_paths.specs.Findings.{SpanBefore, IsNotAfter, IsFirstLeaf, BreaksAtOp, BreaksAtReturn, FallsOff, IsLeastCause, IsLeastLeaf, IsPathFinding, IsLeastOf}
use Rattle.own_paths.specs.Fixed.{fixed_breaks}
use Rattle.own_paths.specs.Laws.{SoundBreaksNothing}
use Rattle.own_paths.specs.Makers.{BodyUses, uses_of}
use Rattle.own_shapes.specs.Places.{whole, PlaceBefore}
use Rattle.own_paths.proofs.Descent.{each_span, each_place}
use Rattle.own_shapes.proofs.Lists.{In, in_contains}
use Rattle.own_shapes.proofs.PlaceOrder.{places}
use Rattle.own_paths.proofs.Orders.{spans}

abbrev finding : Rule → Span → Place → Span → Finding
finding r at place cause = record { rule = r; span = at; place = place; cause = cause }

-- a span with none before it is after none
not_after : (s t : Span) → (SpanBefore t s → ⊥) → IsNotAfter s t
not_after s t none = elim (spans s t) [
  | inl before ↦ inr before
  | inr (inl same) ↦ inl same
  | inr (inr after) ↦ absurd (none after)
]

module _ (uses : BodyUses) (none : (f : Finding) → IsPathFinding uses f → ⊥) where
  -- ---- ops

  no_least_cause : (r : Rule) → ((at : Span) (place : Place) (cause : Span) → IsLeastCause uses (finding r at place cause) → ⊥)
      → (at : Span) (place : Place) (cause : Span) → BreaksAtOp uses r at place cause → ⊥
  no_least_cause r never at place cause =
      each_span (λ c. BreaksAtOp uses r at place c → ⊥)
      (λ c earlier b. never at place c (record { breaks = b; least = λ d other. not_after c d (λ before. earlier d before other) })) cause

  at_op : (r : Rule) (at : Span) (place : Place) (cause : Span) → BreaksAtOp uses r at place cause → ⊥
  at_op rule.O1 at place cause b = no_least_cause rule.O1 (λ a p c f. none (finding rule.O1 a p c) f) at place cause b
  at_op rule.O2 at place cause b = no_least_cause rule.O2 (λ a p c f. none (finding rule.O2 a p c) f) at place cause b
  at_op rule.O4 at place cause b = no_least_cause rule.O4 (λ a p c f. none (finding rule.O4 a p c) f) at place cause b
  at_op rule.O6 at place cause b = no_least_cause rule.O6 (λ a p c f. none (finding rule.O6 a p c) f) at place cause b
  at_op rule.O3 at place cause b = b.breaks
  at_op rule.O5 at place cause b = b.breaks
  at_op rule.O7 at place cause b = b.breaks
  at_op rule.O8 at place cause b = b.breaks
  at_op rule.O9 at place cause b = b.breaks
  at_op rule.O10 at place cause b = b.breaks
  at_op rule.O11 at place cause b = b.breaks
  at_op rule.F1 at place cause b = b.breaks

  -- ---- returns

  no_least_leaf : (r : Rule) → ((at : Span) (leaf : Place) (cause : Span) → IsLeastLeaf uses (finding r at leaf cause) → ⊥)
      → (at : Span) (leaf : Place) (cause : Span) → BreaksAtReturn uses r at leaf cause → ⊥
  no_least_leaf r never at leaf cause b =
      each_span (λ c. (l : Place) → In uses.leaves l → BreaksAtReturn uses r at l c → ⊥)
      (λ c earlier l i.
      each_place uses.leaves (λ m. BreaksAtReturn uses r at m c → ⊥)
      (λ m j lower d. never at m c (record { breaks = d; least = λ n e other. first m c earlier lower n e other (in_contains uses.leaves n other.is_leaf) })) l i)
      cause leaf (in_contains uses.leaves leaf b.is_leaf) b
    where
      first : (m : Place) (c : Span) → ((d : Span) → SpanBefore d c → (l : Place) → In uses.leaves l → BreaksAtReturn uses r at l d → ⊥)
          → ((n : Place) → In uses.leaves n → PlaceBefore n m → BreaksAtReturn uses r at n c → ⊥)
          → (n : Place) (e : Span) → BreaksAtReturn uses r at n e → In uses.leaves n → IsFirstLeaf (finding r at m c) n e
      first m c earlier lower n e other i = elim (spans c e) [
        | inl before ↦ inl before
        | inr (inr after) ↦ absurd (earlier e after n i other)
        | inr (inl same) ↦ elim (places m n) [
          | inl before ↦ inr (same, inr before)
          | inr (inl alike) ↦ inr (same, inl alike)
          | inr (inr after) ↦ absurd (lower n i after (subst (λ s. BreaksAtReturn uses r at n s) (sym same) other))
        ]
      ]

  at_return : (r : Rule) (at : Span) (leaf : Place) (cause : Span) → BreaksAtReturn uses r at leaf cause → ⊥
  at_return rule.O3 at leaf cause b = no_least_leaf rule.O3 (λ a l c f. none (finding rule.O3 a l c) f) at leaf cause b
  at_return rule.O5 at leaf cause b = no_least_leaf rule.O5 (λ a l c f. none (finding rule.O5 a l c) f) at leaf cause b
  at_return rule.O1 at leaf cause b = b.owed
  at_return rule.O2 at leaf cause b = b.owed
  at_return rule.O4 at leaf cause b = b.owed
  at_return rule.O6 at leaf cause b = b.owed
  at_return rule.O7 at leaf cause b = b.owed
  at_return rule.O8 at leaf cause b = b.owed
  at_return rule.O9 at leaf cause b = b.owed
  at_return rule.O10 at leaf cause b = b.owed
  at_return rule.O11 at leaf cause b = b.owed
  at_return rule.F1 at leaf cause b = b.owed

  falls : uses.has_result ≡ true → FallsOff uses → ⊥
  falls result off =
      none (finding rule.F1 uses.close (whole 0) uses.close) (record { result = result; falls = off; span_is = refl; cause_is = refl; place_is = refl })

-- ---- fixed rules

no_fixed : (breaks : List Finding) → ((f : Finding) → IsLeastOf breaks f → ⊥) → (f : Finding) → Contains breaks f → ⊥
no_fixed breaks none f =
    each_span (λ c. (g : Finding) → g.cause ≡ c → Contains breaks g → ⊥)
    (λ c earlier g e i. none g (record { is_one = i; least = λ h j same. not_after g.cause h.cause (λ before. earlier h.cause (subst (λ s. SpanBefore h.cause s) e before) h refl j) }))
    f.cause f refl

pub breaks_nothing : SoundBreaksNothing
breaks_nothing types program sound k body found = record {
  at_op = at_op (uses_of types program k body) (λ f is. nothing f (inl is));
  at_return = at_return (uses_of types program k body) (λ f is. nothing f (inl is));
  falls = falls (uses_of types program k body) (λ f is. nothing f (inl is));
  fixed = no_fixed (fixed_breaks types program k body) (λ f is. nothing f (inr is));
}
  where
    nothing : (f : Finding) → (IsPathFinding (uses_of types program k body) f ⊎ IsLeastOf (fixed_breaks types program k body) f) → ⊥
    nothing f is = in_contains [] f ((sound.all f).1 (k, body, found, is))
