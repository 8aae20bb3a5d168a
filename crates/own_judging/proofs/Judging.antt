-- That the function of each kind of rule finds exactly what the rule says.
use Rattle.std.specs.Prelude.{◌≡◌, ℕ, suc, Bool, true, false, List, [], ◌∷◌, ◌++◌, length, Option, Some, None, Ok, Err, slice_set}
use Rattle.std.proofs.Common.{refl, sym, ap, ◌∙◌, inl, inr, arith, subst, append_assoc}
use Rattle.std.proofs.lemmas.List.{append-nil}
use Rattle.own_tree.specs.declared.place.Binding.{Binding}
use Rattle.own_tree.specs.declared.span.Span.{Span}
use Rattle.own_tree.specs.TypedSource.{TBody}
use Rattle.own_judging.specs.Made.{Made, Fault, broken, Grows, Found, made, stop}
use Rattle.own_judging.specs.Judged.{Judged, Test, after, Then, ThenFails, then_run, Around, around_run, checked, taken, unless_run}

-- ---- what was made stays

pub itself : (s : Made) → Grows s s
itself s = record {
  nodes = omega arith;
  bindings = ([], sym (append-nil s.bindings));
  bodies = ([], sym (append-nil s.bodies));
}

pub stays : (s s' : Made) → s' ≡ s → Grows s s'
stays s s' e = subst (λ t. Grows s t) (sym e) (itself s)

more : {A : Type 0} (xs ys zs ps qs : List A) → ys ≡ xs ++ ps → zs ≡ ys ++ qs → zs ≡ xs ++ (ps ++ qs)
more xs ys zs ps qs p q = q ∙ ap (λ l. l ++ qs) p ∙ append_assoc xs ps qs

pub grows_on : (a b c : Made) → Grows a b → Grows b c → Grows a c
grows_on a b c p q = record {
  nodes = omega (arith, p.nodes, q.nodes);
  bindings = (
    p.bindings.0 ++ q.bindings.0,
    more a.bindings b.bindings c.bindings p.bindings.0 q.bindings.0 p.bindings.1 q.bindings.1,
  );
  bodies = (p.bodies.0 ++ q.bodies.0, more a.bodies b.bodies c.bodies p.bodies.0 q.bodies.0 p.bodies.1 q.bodies.1);
}

pub grows_to : (s s' t : Made) → Grows s t → s' ≡ t → Grows s s'
grows_to s s' t p e = subst (λ t. Grows s t) (sym e) p

-- ---- what answers say

pub no_err : {A : Type 0} (a : A) (s : Made) (f : Fault) → made a s ≡ stop A f → ⊥
no_err a s f e = cc

pub no_ok : {A : Type 0} (a : A) (s : Made) (f : Fault) → stop A f ≡ made a s → ⊥
no_ok a s f e = cc

gave : {A : Type 0} → A × Made → Found A
gave p = Ok p

same_pair : {A : Type 0} (p q : A × Made) → gave p ≡ gave q → p ≡ q
unfolding gave
same_pair p q e = cc

same_made : {A : Type 0} (x a : A) (s s' : Made) → made x s ≡ made a s' → (x ≡ a) × (s ≡ s')
unfolding gave
same_made x a s s' e = let both = same_pair (x, s) (a, s') e in (ap (λ p. p.0) both, ap (λ p. p.1) both)

pub same_stop : (A : Type 0) (f g : Fault) → stop A f ≡ stop A g → f ≡ g
same_stop A f g e = cc

pub ok_of : {A : Type 0} (x a : A) (s s' : Made) → (a ≡ x) × (s' ≡ s) → made x s ≡ made a s'
ok_of x a s s' h = rw (h.0, h.1) refl

pub parts_of : {A : Type 0} (x a : A) (s s' : Made) → made x s ≡ made a s' → (a ≡ x) × (s' ≡ s)
parts_of x a s s' e = (sym (same_made x a s s' e).0, sym (same_made x a s s' e).1)

-- ---- one rule after another

module _ {A B : Type 0} (first : Judged A) (next : A → Judged B) where
  rest_of : A → Made → Found B
  rest_of a between = (next a).run between

  pub then_found : (s : Made) (b : B) (s' : Made) → Then first next s b s' → then_run first next s ≡ Ok (b, s')
  then_found s b s' h =
      ap (λ r. after r (λ a between. (next a).run between)) (first.found s h.0 h.1 h.2)
      ∙ (next h.0).found h.1 b s' h.3

  pub from_ok :
      (s : Made) (b : B) (s' : Made) (r : Found A) → first.run s ≡ r
      → after r (λ a between. (next a).run between) ≡ Ok (b, s') → Then first next s b s'
  from_ok s b s' (Ok x) at_first e = (x.0, x.1, first.is_so s x.0 x.1 at_first, (next x.0).is_so x.1 b s' e)
  from_ok s b s' (Err f) at_first e = absurd (no_ok b s' f e)

  pub then_stopped : (s : Made) (f : Fault) → ThenFails first next s f → then_run first next s ≡ Err f
  then_stopped s f (inl h) = ap (λ r. after r (λ a between. (next a).run between)) (first.stopped s f h)
  then_stopped s f (inr h) =
      ap (λ r. after r (λ a between. (next a).run between)) (first.found s h.0 h.1 h.2)
      ∙ (next h.0).stopped h.1 f h.3

  pub from_err :
      (s : Made) (f : Fault) (r : Found A) → first.run s ≡ r
      → after r (λ a between. (next a).run between) ≡ Err f → ThenFails first next s f
  from_err s f (Ok x) at_first e = inr (x.0, x.1, first.is_so s x.0 x.1 at_first, (next x.0).is_false x.1 f e)
  from_err s f (Err g) at_first e = inl (first.is_false s f (at_first ∙ ap Err (same_stop B g f e)))

  pub then_grows : (s : Made) (b : B) (s' : Made) → Then first next s b s' → Grows s s'
  then_grows s b s' h = grows_on s h.1 s' (first.grows s h.0 h.1 h.2) ((next h.0).grows h.1 b s' h.3)

-- ---- side conditions

false_true : false ≡ true → ⊥
false_true e = cc

module _ (t : Test) (g : Fault) where
  pub was_checked :
      (s : Made) (a : Unit {0}) (s' : Made) (b : Bool) → t.test ≡ b → checked b g s ≡ Ok (a, s') → t.is × (s' ≡ s)
  was_checked s a s' true at_test e = (t.passed at_test, (parts_of tt a s s' e).1)
  was_checked s a s' false at_test e = absurd (no_ok a s' g e)

  pub was_not : (s : Made) (f : Fault) (b : Bool) → t.test ≡ b → (t.is → ⊥) × (f ≡ g) → checked b g s ≡ Err f
  was_not s f true at_test h = absurd (h.0 (t.passed at_test))
  was_not s f false at_test h = ap Err (sym h.1)

  pub failed_check : (s : Made) (f : Fault) (b : Bool) → t.test ≡ b → checked b g s ≡ Err f → (t.is → ⊥) × (f ≡ g)
  failed_check s f true at_test e = absurd (no_err tt s f e)
  failed_check s f false at_test e =
      ((λ h. false_true (sym at_test ∙ t.passes h)), sym (same_stop (Unit {0}) g f e))

-- ---- look-ups

module _ {A : Type 0} (o : Option A) (g : Fault) where
  pub taken_found : (s : Made) (a : A) (s' : Made) → (o ≡ Some a) × (s' ≡ s) → taken o g s ≡ Ok (a, s')
  taken_found s a s' h = ap (λ o. taken o g s) h.0 ∙ ok_of a a s s' (refl, h.1)

  pub was_taken :
      (s : Made) (a : A) (s' : Made) (r : Option A) → o ≡ r → taken r g s ≡ Ok (a, s') → (o ≡ Some a) × (s' ≡ s)
  was_taken s a s' (Some x) at_o e = (at_o ∙ ap Some (sym (parts_of x a s s' e).0), (parts_of x a s s' e).1)
  was_taken s a s' None at_o e = absurd (no_ok a s' g e)

  pub not_taken : (s : Made) (f : Fault) (r : Option A) → o ≡ r → taken r g s ≡ Err f → (o ≡ None) × (f ≡ g)
  not_taken s f (Some x) at_o e = absurd (no_err x s f e)
  not_taken s f None at_o e = (at_o, sym (same_stop A g f e))

  pub taken_stopped : (s : Made) (f : Fault) → (o ≡ None) × (f ≡ g) → taken o g s ≡ Err f
  taken_stopped s f h = ap (λ o. taken o g s) h.0 ∙ ap Err (sym h.1)

-- ---- judgements that a part of the text names

module _ (o : Option ℕ) (at : Span) where
  pub unless_found : (s : Made) (a : Unit {0}) (s' : Made) → (o ≡ None) × (s' ≡ s) → unless_run o at s ≡ Ok (a, s')
  unless_found s a s' h = ap (λ o. unless_run o at s) h.0 ∙ ok_of tt a s s' (refl, h.1)

  pub was_none :
      (s : Made) (a : Unit {0}) (s' : Made) (r : Option ℕ) → o ≡ r → unless_run r at s ≡ Ok (a, s')
      → (o ≡ None) × (s' ≡ s)
  was_none s a s' None at_o e = (at_o, (parts_of tt a s s' e).1)
  was_none s a s' (Some c) at_o e = absurd (no_ok a s' (broken c at) e)

  pub unless_stopped :
      (s : Made) (f : Fault) → (c : ℕ) × (o ≡ Some c) × (f ≡ broken c at) → unless_run o at s ≡ Err f
  unless_stopped s f h = ap (λ o. unless_run o at s) h.1 ∙ ap Err (sym h.2)

  pub was_some :
      (s : Made) (f : Fault) (r : Option ℕ) → o ≡ r → unless_run r at s ≡ Err f
      → (c : ℕ) × (o ≡ Some c) × (f ≡ broken c at)
  was_some s f None at_o e = absurd (no_err tt s f e)
  was_some s f (Some c) at_o e = (c, at_o, sym (same_stop (Unit {0}) (broken c at) f e))

-- ---- numbers

pub node_grown : (s : Made) → Grows s (record s { nodes = suc s.nodes })
node_grown s = record { nodes = omega arith; bindings = (itself s).bindings; bodies = (itself s).bodies }

pub binding_grown : (b : Binding) (s : Made) → Grows s (record s { bindings = s.bindings ++ b ∷ [] })
binding_grown b s = record { nodes = omega arith; bindings = (b ∷ [], refl); bodies = (itself s).bodies }

set_seam :
    {A : Type 0} (xs : List A) (y z : A) (ys : List A)
    → slice_set ((xs ++ y ∷ []) ++ ys) (length xs) z ≡ xs ++ z ∷ ys
set_seam [] y z ys = refl
set_seam (x ∷ xs) y z ys = ap (λ l. x ∷ l) (set_seam xs y z ys)

pub binding_whole :
    (b z : Binding) (s m : Made) → Grows (record s { bindings = s.bindings ++ b ∷ [] }) m
    → Grows s (record m { bindings = slice_set m.bindings (length s.bindings) z })
binding_whole b z s m g = record {
  nodes = g.nodes;
  bindings = (
    z ∷ g.bindings.0,
    ap (λ l. slice_set l (length s.bindings) z) g.bindings.1 ∙ set_seam s.bindings b z g.bindings.0,
  );
  bodies = g.bodies;
}

pub body_whole :
    (b z : TBody) (s m : Made) → Grows (record s { bodies = s.bodies ++ b ∷ [] }) m
    → Grows s (record m { bodies = slice_set m.bodies (length s.bodies) z })
body_whole b z s m g = record {
  nodes = g.nodes;
  bindings = g.bindings;
  bodies = (
    z ∷ g.bodies.0,
    ap (λ l. slice_set l (length s.bodies) z) g.bodies.1 ∙ set_seam s.bodies b z g.bodies.0,
  );
}

-- ---- something that begins, and then is whole

pair_of : {A : Type 0} (n : ℕ) (r : ℕ × A) → r.0 ≡ n → r ≡ (n, r.1)
pair_of n r e = ap (λ k. (k, r.1)) e

module _
    {A : Type 0} (number : Made → ℕ) (begin : Made → Made) (inside : ℕ → Judged A) (whole : ℕ → A → Made → Made) where
  pub around_found :
      (s : Made) (r : ℕ × A) (s' : Made) → Around number begin inside whole s r s'
      → around_run number begin inside whole s ≡ made r s'
  around_found s r s' h =
      ap (λ f. after f (λ a m. made (number s, a) (whole (number s) a m)))
      ((inside (number s)).found (begin s) r.1 h.0 h.2)
      ∙ ok_of (number s, r.1) r (whole (number s) r.1 h.0) s' (pair_of (number s) r h.1, h.3)

  pub around_so :
      (s : Made) (r : ℕ × A) (s' : Made) (f : Found A) → (inside (number s)).run (begin s) ≡ f
      → after f (λ a m. made (number s, a) (whole (number s) a m)) ≡ made r s' → Around number begin inside whole s r s'
  around_so s r s' (Ok x) at_f e =
      let p = parts_of (number s, x.0) r (whole (number s) x.0 x.1) s' e in
      let same : r.1 ≡ x.0 = ap (λ q. q.1) p.0 in (
        x.1,
        ap (λ q. q.0) p.0,
        subst (λ a. (inside (number s)).holds (begin s) a x.1) (sym same)
            ((inside (number s)).is_so (begin s) x.0 x.1 at_f),
        p.1 ∙ ap (λ a. whole (number s) a x.1) (sym same),
      )
  around_so s r s' (Err g) at_f e = absurd (no_ok r s' g e)

  pub around_stopped :
      (s : Made) (f : Fault) → (inside (number s)).fails (begin s) f
      → around_run number begin inside whole s ≡ stop (ℕ × A) f
  around_stopped s f h =
      ap (λ f. after f (λ a m. made (number s, a) (whole (number s) a m)))
      ((inside (number s)).stopped (begin s) f h)

  pub around_false :
      (s : Made) (g : Fault) (f : Found A) → (inside (number s)).run (begin s) ≡ f
      → after f (λ a m. made (number s, a) (whole (number s) a m)) ≡ stop (ℕ × A) g
      → (inside (number s)).fails (begin s) g
  around_false s g (Ok x) at_f e = absurd (no_err (number s, x.0) (whole (number s) x.0 x.1) g e)
  around_false s g (Err f) at_f e =
      (inside (number s)).is_false (begin s) g (at_f ∙ ap Err (same_stop (ℕ × A) f g e))

  pub around_grows :
      ((s : Made) (a : A) (m : Made) → Grows (begin s) m → Grows s (whole (number s) a m))
      → (s : Made) (r : ℕ × A) (s' : Made) → Around number begin inside whole s r s' → Grows s s'
  around_grows grown s r s' h =
      grows_to s s' (whole (number s) r.1 h.0)
      (grown s r.1 h.0 ((inside (number s)).grows (begin s) r.1 h.0 h.2)) h.3

-- ---- what a rule says is one thing, and it holds or fails

pub says_one :
    {A : Type 0} (j : Judged A) (s : Made) (a b : A) (s' s'' : Made) → j.holds s a s' → j.holds s b s''
    → (a ≡ b) × (s' ≡ s'')
says_one j s a b s' s'' p q =
    let same = parts_of a b s' s'' (sym (j.found s a s' p) ∙ j.found s b s'' q) in (sym same.0, sym same.1)

pub fails_one : {A : Type 0} (j : Judged A) (s : Made) (f g : Fault) → j.fails s f → j.fails s g → f ≡ g
fails_one {A = A} j s f g p q = same_stop A f g (sym (j.stopped s f p) ∙ j.stopped s g q)

pub says_or_fails :
    {A : Type 0} (j : Judged A) (s : Made) (a : A) (s' : Made) (f : Fault) → j.holds s a s' → j.fails s f → ⊥
says_or_fails j s a s' f p q = no_err a s' f (sym (j.found s a s' p) ∙ j.stopped s f q)
