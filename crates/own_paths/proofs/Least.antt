-- Each cause of a path rule is the span of an op of the tree, so the least of these few is the least of all causes.
use Rattle.std.proofs.Common.{◌≡◌, ℕ, ◌⊎◌, Bool, true, false, ◌&&◌, ◌||◌, ◌==◌, List, [], ◌∷◌, ◌++◌, inl, inr, refl, sym, ap, ◌∙◌, subst}
use Rattle.std.proofs.lemmas.Bool.{and_parts, eqb-true, eq-eqb}
use Rattle.std.specs.Prelude.{IsTrue, if◌then◌else◌}
use Rattle.own_tree.specs.declared.finding.Rule.{Rule}
use Rattle.own_tree.specs.declared.finding.Rule.TheVariants as rule
use Rattle.own_tree.specs.declared.op.Op.{Op}
use Rattle.own_tree.specs.declared.op.OpKind.{OpKind}
use Rattle.own_tree.specs.declared.op.OpKind.TheVariants as kind
use Rattle.own_tree.specs.declared.place.Place.{Place}
use Rattle.own_tree.specs.declared.span.Span.{Span}
use Rattle.own_paths.specs.Findings.{IsNotAfter, IsGivenUp, BreaksAtOp, BreaksAtReturn, IsWithoutValue}
use Rattle.own_paths.specs.Fixed.{ops_in, is_consume, is_discard}
use Rattle.own_paths.specs.Makers.{made, ended, bare, kind_needs, BodyUses, tree_of, maker}
use Rattle.own_shapes.specs.Places.{covers, overlaps, is_prefix}
use Rattle.own_shapes.proofs.Lists.{In, in_front}
use Rattle.own_paths.proofs.Occurs.{ends_in, Stands, stands, Origin, maker_origin}

-- ---- kinds of ops

abbrev pub gives_up : OpKind → Bool
gives_up k = is_consume k || is_discard k

abbrev pub declares : OpKind → Bool
declares kind.Declare = true
declares kind.Make = false
declares kind.Read = false
declares kind.Borrow = false
declares kind.Inout = false
declares kind.Consume = false
declares kind.Discard = false
declares kind.Assign = false
declares kind.Capture = false
declares kind.End = false

abbrev pub makes : OpKind → Bool
makes kind.Make = true
makes kind.Assign = true
makes kind.Declare = false
makes kind.Read = false
makes kind.Borrow = false
makes kind.Inout = false
makes kind.Consume = false
makes kind.Discard = false
makes kind.Capture = false
makes kind.End = false

-- ---- places

pub covers_binding : (p q : Place) → IsTrue (covers p q) → p.binding ≡ q.binding
covers_binding p q h = eqb-true p.binding q.binding (and_parts (p.binding == q.binding) (is_prefix p.fields q.fields) h).0

overlaps_binding : (p q : Place) → IsTrue (overlaps p q) → p.binding ≡ q.binding
overlaps_binding p q h = cases (covers p q) refl
  where
    cases : (b : Bool) → covers p q ≡ b → p.binding ≡ q.binding
    cases true e = covers_binding p q e
    cases false e = sym (covers_binding q p (subst (λ b. (b || covers q p) ≡ true) e h))

IsSo : Bool → Type 0
IsSo true = Unit {0}
IsSo false = ⊥

needed_binding : (k : OpKind) (place leaf : Place) → IsTrue (kind_needs k place leaf) → leaf.binding ≡ place.binding
unfolding IsSo
needed_binding kind.Declare place leaf h = absurd (subst IsSo (sym h) tt)
needed_binding kind.Make place leaf h = absurd (subst IsSo (sym h) tt)
needed_binding kind.End place leaf h = absurd (subst IsSo (sym h) tt)
needed_binding kind.Assign place leaf h = covers_binding leaf place (and_parts (covers leaf place) _ h).0
needed_binding kind.Read place leaf h = overlaps_binding leaf place h
needed_binding kind.Borrow place leaf h = overlaps_binding leaf place h
needed_binding kind.Inout place leaf h = overlaps_binding leaf place h
needed_binding kind.Consume place leaf h = overlaps_binding leaf place h
needed_binding kind.Discard place leaf h = overlaps_binding leaf place h
needed_binding kind.Capture place leaf h = overlaps_binding leaf place h

-- ---- the spans of ops of such kinds on a binding

abbrev pub spans_of : (OpKind → Bool) → ℕ → List Op → List Span
spans_of test x [] = []
spans_of test x (o ∷ os) = if test o.kind && (o.place.binding == x) then o.span ∷ spans_of test x os else spans_of test x os

in_spans : (test : OpKind → Bool) (x : ℕ) (os : List Op) (o : Op) → In os o → test o.kind ≡ true → o.place.binding ≡ x → In (spans_of test x os) o.span
unfolding IsSo
in_spans test x [] o h t e = absurd h
in_spans test x (p ∷ os) o (inl same) t e =
    first (test p.kind && (p.place.binding == x)) (ap (λ b. b && (p.place.binding == x)) (subst (λ (y : Op). test y.kind ≡ true) (sym same) t) ∙ eq-eqb p.place.binding x (subst (λ (y : Op). y.place.binding ≡ x) (sym same) e))
  where
    first : (b : Bool) → b ≡ true → In (if b then p.span ∷ spans_of test x os else spans_of test x os) o.span
    first true f = inl (ap (λ (y : Op). y.span) same)
    first false f = absurd (subst IsSo (sym f) tt)
in_spans test x (p ∷ os) o (inr h) t e = later (test p.kind && (p.place.binding == x)) (in_spans test x os o h t e)
  where
    later : (b : Bool) → In (spans_of test x os) o.span → In (if b then p.span ∷ spans_of test x os else spans_of test x os) o.span
    later true i = inr i
    later false i = i

-- a span that is after none of these
abbrev pub LeastIn : Span → List Span → Type 0
LeastIn s [] = Unit {0}
LeastIn s (t ∷ ts) = IsNotAfter s t × LeastIn s ts

pub least_in : (s : Span) (ts : List Span) → LeastIn s ts → (t : Span) → In ts t → IsNotAfter s t
least_in s [] l t h = absurd h
least_in s (u ∷ ts) l t (inl e) = subst (λ v. IsNotAfter s v) e l.0
least_in s (u ∷ ts) l t (inr h) = least_in s ts l.1 t h

-- ---- causes

pub given_up : (k : OpKind) → IsGivenUp k → gives_up k ≡ true
given_up kind.Consume g = refl
given_up kind.Discard g = refl
given_up kind.Declare g = absurd g
given_up kind.Make g = absurd g
given_up kind.Read g = absurd g
given_up kind.Borrow g = absurd g
given_up kind.Inout g = absurd g
given_up kind.Assign g = absurd g
given_up kind.Capture g = absurd g
given_up kind.End g = absurd g

made_by : (k : OpKind) → (k ≡ kind.Make) ⊎ (k ≡ kind.Assign) → makes k ≡ true
made_by k (inl e) = subst (λ x. makes x ≡ true) (sym e) refl
made_by k (inr e) = subst (λ x. makes x ≡ true) (sym e) refl

not_end : (k : OpKind) (test : OpKind → Bool) → test kind.End ≡ false → test k ≡ true → k ≡ kind.End → ⊥
unfolding IsSo
not_end k test f t e = subst IsSo (sym t ∙ ap test e ∙ f) tt

-- what leaves a leaf without a value
abbrev pub ends_leaf : OpKind → Bool
ends_leaf kind.Consume = true
ends_leaf kind.Discard = true
ends_leaf kind.End = true
ends_leaf kind.Declare = true
ends_leaf kind.Make = false
ends_leaf kind.Read = false
ends_leaf kind.Borrow = false
ends_leaf kind.Inout = false
ends_leaf kind.Assign = false
ends_leaf kind.Capture = false

module _ (uses : BodyUses) where
  abbrev pub AreCauses : (OpKind → Bool) → ℕ → Span → Type 0
  AreCauses test x cause = In (spans_of test x (ops_in (tree_of uses))) cause

  origin : (r : Rule) (at : Span) (place : Place) (cause : Span) (b : BreaksAtOp uses r at place cause)
      → Origin (Stands (tree_of uses)) b.leaf (maker uses b.leaf b.before)
  origin r at place cause b =
      maker_origin uses (Stands (tree_of uses)) b.leaf b.before
      (λ o h. stands b.reached.0 (tree_of uses) (b.before ++ b.breaking ∷ b.reached.1) b.reached.2 b.reached.3 o (in_front b.before (b.breaking ∷ b.reached.1) o h))

  found : (test : OpKind → Bool) (x : ℕ) (by : Op) (cause : Span) → test kind.End ≡ false → Stands (tree_of uses) by → test by.kind ≡ true → by.place.binding ≡ x → by.span ≡ cause
      → AreCauses test x cause
  found test x by cause f (inl h) t e c = subst (λ s. AreCauses test x s) c (in_spans test x (ops_in (tree_of uses)) by h t e)
  found test x by cause f (inr h) t e c = absurd (not_end by.kind test f t h.0)

  pub O1_cause : (at : Span) (place : Place) (cause : Span) → BreaksAtOp uses rule.O1 at place cause → AreCauses gives_up place.binding cause
  O1_cause at place cause b =
      let m : Origin (Stands (tree_of uses)) b.leaf (ended b.by) = subst (λ m. Origin (Stands (tree_of uses)) b.leaf m) b.breaks.1 (origin rule.O1 at place cause b) in
      found gives_up place.binding b.by cause refl m.0 (given_up b.by.kind b.breaks.2)
      (covers_binding b.by.place b.leaf m.1 ∙ needed_binding b.breaking.kind b.breaking.place b.leaf b.breaks.0 ∙ ap (λ (p : Place). p.binding) b.place_is) b.cause_is

  pub O2_cause : (at : Span) (place : Place) (cause : Span) → BreaksAtOp uses rule.O2 at place cause → AreCauses declares place.binding cause
  O2_cause at place cause b =
      let m : Origin (Stands (tree_of uses)) b.leaf (bare b.by) = subst (λ m. Origin (Stands (tree_of uses)) b.leaf m) b.breaks.1 (origin rule.O2 at place cause b) in
      found declares place.binding b.by cause refl m.0 (ap declares m.2)
      (covers_binding b.by.place b.leaf m.1 ∙ needed_binding b.breaking.kind b.breaking.place b.leaf b.breaks.0 ∙ ap (λ (p : Place). p.binding) b.place_is) b.cause_is

  pub O4_cause : (at : Span) (place : Place) (cause : Span) → BreaksAtOp uses rule.O4 at place cause → AreCauses makes place.binding cause
  O4_cause at place cause b =
      let m : Origin (Stands (tree_of uses)) b.leaf (made b.by) = subst (λ m. Origin (Stands (tree_of uses)) b.leaf m) b.breaks.4 (origin rule.O4 at place cause b) in
      found makes place.binding b.by cause refl m.0 (made_by b.by.kind m.2)
      (covers_binding b.by.place b.leaf m.1 ∙ sym (covers_binding b.breaking.place b.leaf b.breaks.3) ∙ ap (λ (p : Place). p.binding) b.place_is) b.cause_is

  pub O6_cause : (at : Span) (place : Place) (cause : Span) → BreaksAtOp uses rule.O6 at place cause → AreCauses makes place.binding cause
  O6_cause at place cause b =
      let m : Origin (Stands (tree_of uses)) b.leaf (made b.by) = subst (λ m. Origin (Stands (tree_of uses)) b.leaf m) b.breaks.3 (origin rule.O6 at place cause b) in
      found makes place.binding b.by cause refl m.0 (made_by b.by.kind m.2)
      (covers_binding b.by.place b.leaf m.1 ∙ sym (covers_binding b.breaking.place b.leaf b.breaks.2) ∙ ap (λ (p : Place). p.binding) b.place_is) b.cause_is

  -- of a leaf without a value at a return, where no scope ends its binding
  pub return_cause : (r : Rule) (at : Span) (leaf : Place) (cause : Span) → (In (ends_in (tree_of uses)) leaf.binding → ⊥)
      → BreaksAtReturn uses r at leaf cause → AreCauses ends_leaf leaf.binding cause
  return_cause r at leaf cause none b = cases b.without
    where
      from : Origin (Stands (tree_of uses)) leaf (maker uses leaf b.before)
      from = maker_origin uses (Stands (tree_of uses)) leaf b.before (stands b.returned.0 (tree_of uses) b.before _ b.returned.1)

      kinds : (x : OpKind) → (x ≡ kind.Consume) ⊎ (x ≡ kind.Discard) ⊎ (x ≡ kind.End) → ends_leaf x ≡ true
      kinds x (inl e) = ap ends_leaf e
      kinds x (inr (inl e)) = ap ends_leaf e
      kinds x (inr (inr e)) = ap ends_leaf e

      caused : (by : Op) → by.span ≡ cause → by.place.binding ≡ leaf.binding → Stands (tree_of uses) by → ends_leaf by.kind ≡ true → AreCauses ends_leaf leaf.binding cause
      caused by c e (inl h) t = subst (λ s. AreCauses ends_leaf leaf.binding s) c (in_spans ends_leaf leaf.binding (ops_in (tree_of uses)) by h t e)
      caused by c e (inr h) t = absurd (none (subst (λ x. In (ends_in (tree_of uses)) x) e h.1))

      cases : IsWithoutValue (maker uses leaf b.before) b.by → AreCauses ends_leaf leaf.binding cause
      cases (inl e) = let m : Origin (Stands (tree_of uses)) leaf (ended b.by) = subst (λ m. Origin (Stands (tree_of uses)) leaf m) e from in caused b.by b.cause_is (covers_binding b.by.place leaf m.1) m.0 (kinds b.by.kind m.2)
      cases (inr e) = let m : Origin (Stands (tree_of uses)) leaf (bare b.by) = subst (λ m. Origin (Stands (tree_of uses)) leaf m) e from in caused b.by b.cause_is (covers_binding b.by.place leaf m.1) m.0 (ap ends_leaf m.2)
