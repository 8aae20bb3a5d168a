-- From all that breaks a rule to the findings: which breaks are of one finding, and which of these is it.
use Rattle.std.specs.Prelude.{◌⊎◌, Contains, if◌then◌else◌, Bool, List, [], ◌∷◌, map}
use Rattle.std.specs.Cmp.Lexicographic.{slice_cmp}
use Rattle.std.specs.Ordering.{is_lt, is_eq, nat_cmp, ordering_then}
use Rattle.std.specs.declared.cmp.Ordering.{Ordering}
use Rattle.own_tree.specs.declared.finding.Finding.{Finding}
use Rattle.own_tree.specs.declared.finding.Rule.{Rule}
use Rattle.own_tree.specs.declared.finding.Rule.TheVariants as rule
use Rattle.own_tree.specs.declared.place.Place.{Place}
use Rattle.own_tree.specs.declared.span.Span.{Span}
use Rattle.own_paths.specs.Findings.{rule_number, BreaksAtOp, BreaksAtReturn, IsFallOff, IsSameBreak, IsFirstLeaf, Rising}
use Rattle.own_paths.specs.Makers.{BodyUses}
use Rattle.own_shapes.specs.Places.{whole}

-- ---- orders

abbrev pub span_cmp : Span → Span → Ordering
span_cmp a b = ordering_then (nat_cmp a.start b.start) (nat_cmp a.end b.end)

abbrev pub place_cmp : Place → Place → Ordering
place_cmp p q = ordering_then (nat_cmp p.binding q.binding) (slice_cmp nat_cmp p.fields q.fields)

-- ---- one finding for each question

-- O3 and O5 give one finding for all leaves at a return.
abbrev pub asked_place : Rule → Place → Place
asked_place rule.O3 p = whole 0
asked_place rule.O5 p = whole 0
asked_place rule.O1 p = p
asked_place rule.O2 p = p
asked_place rule.O4 p = p
asked_place rule.O6 p = p
asked_place rule.O7 p = p
asked_place rule.O8 p = p
asked_place rule.O9 p = p
asked_place rule.O10 p = p
asked_place rule.O11 p = p
asked_place rule.F1 p = p

-- what there is one finding of at most: a rule, a span and, but for O3 and O5, a place
abbrev pub question : Finding → Finding
question f = record { rule = f.rule; span = f.span; place = asked_place f.rule f.place; cause = f.cause }

abbrev pub IsSameQuestion : Finding → Finding → Type 0
IsSameQuestion f g = IsSameBreak (question f) (question g)

abbrev pub question_cmp : Finding → Finding → Ordering
question_cmp f g =
    ordering_then (span_cmp f.span g.span)
    (ordering_then (nat_cmp (rule_number f.rule) (rule_number g.rule))
    (place_cmp (asked_place f.rule f.place) (asked_place g.rule g.place)))

-- of one question the one with the cause of least position, and among equals the first place
abbrev pub IsNoWorse : Finding → Finding → Type 0
IsNoWorse f g = IsSameQuestion f g × IsFirstLeaf f g.place g.cause

abbrev pub is_better : Finding → Finding → Bool
is_better f g = is_lt (ordering_then (span_cmp f.cause g.cause) (place_cmp f.place g.place))

-- ---- lists of what breaks rules

-- a list with one more, which takes the part of the last one where it is of the same question and better
abbrev pub offered : List Finding → Finding → List Finding
offered [] f = f ∷ []
offered (g ∷ []) f =
    if is_eq (question_cmp g f) then (if is_better f g then f ∷ [] else g ∷ []) else g ∷ f ∷ []
offered (g ∷ h ∷ gs) f = g ∷ offered (h ∷ gs) f

-- The new list holds what the old one held and these, but for those than which it holds one that is no worse.
pub record Gathers (Is : Finding → Type 0) (old new : List Finding) : Type 0 where
  pub sound : (f : Finding) → Contains new f → Contains old f ⊎ Is f
  pub complete : (f : Finding) → Contains old f ⊎ Is f → (g : Finding) × Contains new g × IsNoWorse g f

-- the best of each question, in order
pub record AreBest (all best : List Finding) : Type 0 where
  pub sound : (f : Finding) → Contains best f → Contains all f
  pub complete : (f : Finding) → Contains all f → (g : Finding) × Contains best g × IsNoWorse g f
  pub rising : Rising (map question best)

-- ---- what breaks a path rule of a body

module _ (uses : BodyUses) where
  abbrev pub BreaksBy : Rule → Finding → Type 0
  BreaksBy rule.O1 f = BreaksAtOp uses f.rule f.span f.place f.cause
  BreaksBy rule.O2 f = BreaksAtOp uses f.rule f.span f.place f.cause
  BreaksBy rule.O3 f = BreaksAtReturn uses f.rule f.span f.place f.cause
  BreaksBy rule.O4 f = BreaksAtOp uses f.rule f.span f.place f.cause
  BreaksBy rule.O5 f = BreaksAtReturn uses f.rule f.span f.place f.cause
  BreaksBy rule.O6 f = BreaksAtOp uses f.rule f.span f.place f.cause
  BreaksBy rule.F1 f = IsFallOff uses f
  BreaksBy rule.O7 f = ⊥
  BreaksBy rule.O8 f = ⊥
  BreaksBy rule.O9 f = ⊥
  BreaksBy rule.O10 f = ⊥
  BreaksBy rule.O11 f = ⊥

  -- some trace breaks the rule of the finding, with its cause
  abbrev pub Breaks : Finding → Type 0
  Breaks f = BreaksBy f.rule f
