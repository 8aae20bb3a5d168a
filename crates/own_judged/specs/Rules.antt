-- The premises that rules are made of.
use Rattle.std.specs.Prelude.{◌≡◌, ℕ, suc, List, [], ◌∷◌, ◌++◌, length, Option, Some, None, Ok, Err, slice_set}
use Rattle.std.proofs.Common.{refl, sym, ap, ◌∙◌}
use Rattle.own_tree.specs.declared.place.Binding.{Binding}
use Rattle.own_tree.specs.declared.place.Ty.{Ty}
use Rattle.own_tree.specs.declared.span.Span.{Span}
use Rattle.own_tree.specs.TypedSource.{TPat, TBody}
use Rattle.own_shapes.specs.Types.{Types}
use Rattle.own_match.specs.Forms.{IsMissing, IsFirst}
use Rattle.own_match.specs.Values.{Covers}
use Rattle.own_judging.specs.Made.{Made, broken, uncovered, Grows}
use Rattle.own_judging.specs.Judged.{Judged, Test, Then, ThenFails, then_run, Around, around_run, checked, taken, unless_run}
use Rattle.own_judging.specs.Coverage.{first_missing, covering_run}
use Rattle.own_judging.proofs.Covering.{covering_found, was_covered, covering_stopped, was_uncovered}
use Rattle.own_judging.proofs.Judging.{stays, no_err, no_ok, same_stop, ok_of, parts_of, then_found, from_ok, then_stopped, from_err, then_grows, was_checked, was_not, failed_check, taken_found, was_taken, not_taken, taken_stopped, unless_found, was_none, unless_stopped, was_some, grows_to, node_grown, binding_grown, binding_whole, body_whole, around_found, around_so, around_stopped, around_false, around_grows}

-- the conclusion: this is what the part becomes
abbrev pub yields : {A : Type 0} → A → Judged A
yields x = record {
  holds = λ s a s'. (a ≡ x) × (s' ≡ s);
  fails = λ s f. ⊥;
  run = λ s. Ok (x, s);
  found = λ s a s' h. ok_of x a s s' h;
  is_so = λ s a s' e. parts_of x a s s' e;
  stopped = λ s f h. absurd h;
  is_false = λ s f e. no_err x s f e;
  grows = λ s a s' h. stays s s' h.1;
}

-- a premise, and what follows of what it gives
infixl 10 ◌>>=◌
abbrev pub ◌>>=◌ : {A B : Type 0} → Judged A → (A → Judged B) → Judged B
first >>= next = record {
  holds = Then first next;
  fails = ThenFails first next;
  run = then_run first next;
  found = then_found first next;
  is_so = λ s b s' e. from_ok first next s b s' (first.run s) refl e;
  stopped = then_stopped first next;
  is_false = λ s f e. from_err first next s f (first.run s) refl e;
  grows = then_grows first next;
}

infixl 10 ◌>>◌
abbrev pub ◌>>◌ : {A B : Type 0} → Judged A → Judged B → Judged B
first >> next = first >>= (λ a. next)

-- a judgement: the fact holds, or the judgement of that number is false at that place
abbrev pub holding : Test → (code : ℕ) → Span → Judged (Unit {0})
holding t code at = record {
  holds = λ s a s'. t.is × (s' ≡ s);
  fails = λ s f. (t.is → ⊥) × (f ≡ broken code at);
  run = λ s. checked t.test (broken code at) s;
  found = λ s a s' h. ap (λ b. checked b (broken code at) s) (t.passes h.0) ∙ ok_of tt a s s' (refl, h.1);
  is_so = λ s a s' e. was_checked t (broken code at) s a s' t.test refl e;
  stopped = λ s f h. was_not t (broken code at) s f t.test refl h;
  is_false = λ s f e. failed_check t (broken code at) s f t.test refl e;
  grows = λ s a s' h. stays s s' h.1;
}

-- a judgement: what is looked up is there, and here it is
abbrev pub the : {A : Type 0} → Option A → (code : ℕ) → Span → Judged A
the o code at = record {
  holds = λ s a s'. (o ≡ Some a) × (s' ≡ s);
  fails = λ s f. (o ≡ None) × (f ≡ broken code at);
  run = λ s. taken o (broken code at) s;
  found = taken_found o (broken code at);
  is_so = λ s a s' e. was_taken o (broken code at) s a s' o refl e;
  stopped = taken_stopped o (broken code at);
  is_false = λ s f e. not_taken o (broken code at) s f o refl e;
  grows = λ s a s' h. stays s s' h.1;
}

-- nothing of this form is judged: the judgement of that number is false of it
abbrev pub refused : {A : Type 0} → (code : ℕ) → Span → Judged A
refused code at = record {
  holds = λ s a s'. ⊥;
  fails = λ s f. f ≡ broken code at;
  run = λ s. Err (broken code at);
  found = λ s a s' h. absurd h;
  is_so = λ s a s' e. no_ok a s' (broken code at) e;
  stopped = λ s f h. ap Err (sym h);
  is_false = λ s f e. sym (same_stop _ (broken code at) f e);
  grows = λ s a s' h. absurd h;
}

-- a judgement, of the number that is there, is false; where there is none, all is well
abbrev pub unless : (code : Option ℕ) → Span → Judged (Unit {0})
unless code at = record {
  holds = λ s a s'. (code ≡ None) × (s' ≡ s);
  fails = λ s f. (c : ℕ) × (code ≡ Some c) × (f ≡ broken c at);
  run = unless_run code at;
  found = unless_found code at;
  is_so = λ s a s' e. was_none code at s a s' code refl e;
  stopped = unless_stopped code at;
  is_false = λ s f e. was_some code at s f code refl e;
  grows = λ s a s' h. stays s s' h.1;
}

-- T20: the patterns match each value of the type, or this is the first form that they miss
abbrev pub covering : Types → Ty → List TPat → Span → Judged (Unit {0})
covering types ty ps at = record {
  holds = λ s a s'. Covers ps (types.shape ty) × (s' ≡ s);
  fails = λ s f.
      (p : TPat) × IsMissing (types.shape ty) ps p × IsFirst (types.shape ty) ps p × (f ≡ uncovered at ty p);
  run = covering_run (first_missing ps (types.shape ty)) at ty;
  found = covering_found types ty ps at;
  is_so = λ s a s' e. was_covered types ty ps at s a s' (first_missing ps (types.shape ty)) refl e;
  stopped = covering_stopped types ty ps at;
  is_false = λ s f e. was_uncovered types ty ps at s f (first_missing ps (types.shape ty)) refl e;
  grows = λ s a s' h. stays s s' h.1;
}

-- ---- numbers

-- something of what was made, which changes by it
abbrev pub changed : {A : Type 0} → (Made → A) → (by : Made → Made) → ((s : Made) → Grows s (by s)) → Judged A
changed gives by grown = record {
  holds = λ s a s'. (a ≡ gives s) × (s' ≡ by s);
  fails = λ s f. ⊥;
  run = λ s. Ok (gives s, by s);
  found = λ s a s' h. ok_of (gives s) a (by s) s' h;
  is_so = λ s a s' e. parts_of (gives s) a (by s) s' e;
  stopped = λ s f h. absurd h;
  is_false = λ s f e. no_err (gives s) (by s) f e;
  grows = λ s a s' h. grows_to s s' (by s) (grown s) h.1;
}

-- the next node
abbrev pub node : Judged ℕ
node = changed (λ s. suc s.nodes) (λ s. record s { nodes = suc s.nodes }) node_grown

-- the next binding
abbrev pub declared : Binding → Judged ℕ
declared b = changed (λ s. length s.bindings) (λ s. record s { bindings = s.bindings ++ b ∷ [] }) (binding_grown b)

-- something that begins under its number, what stands in it, and then the whole
module _
    {A : Type 0} (number : Made → ℕ) (begin : Made → Made) (inside : ℕ → Judged A) (whole : ℕ → A → Made → Made)
    (grown : (s : Made) (a : A) (m : Made) → Grows (begin s) m → Grows s (whole (number s) a m)) where
  abbrev pub around : Judged (ℕ × A)
  around = record {
    holds = Around number begin inside whole;
    fails = λ s f. (inside (number s)).fails (begin s) f;
    run = around_run number begin inside whole;
    found = around_found number begin inside whole;
    is_so = λ s r s' e. around_so number begin inside whole s r s' ((inside (number s)).run (begin s)) refl e;
    stopped = around_stopped number begin inside whole;
    is_false = λ s g e. around_false number begin inside whole s g ((inside (number s)).run (begin s)) refl e;
    grows = around_grows number begin inside whole grown;
  }

-- The next binding is `first` while its value is judged, whose closures have bindings of their own, and then what it
-- is by its value.
abbrev pub declaring : {A : Type 0} → (first : Binding) → Judged A → (A → Binding) → Judged (ℕ × A)
declaring first value last =
    around
    (λ s. length s.bindings)
    (λ s. record s { bindings = s.bindings ++ first ∷ [] })
    (λ x. value)
    (λ x a m. record m { bindings = slice_set m.bindings x (last a) })
    (λ s a m g. binding_whole first (last a) s m g)

-- The next body is `first` while its parts are judged, which have its number, and then what it is by its parts.
abbrev pub embodied : {A : Type 0} → (first : TBody) → (ℕ → Judged A) → (A → TBody) → Judged (ℕ × A)
embodied first inside last =
    around
    (λ s. length s.bodies)
    (λ s. record s { bodies = s.bodies ++ first ∷ [] })
    inside
    (λ k a m. record m { bodies = slice_set m.bodies k (last a) })
    (λ s a m g. body_whole first (last a) s m g)
