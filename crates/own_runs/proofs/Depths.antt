-- A depth of calls and loops that is greater than the turns makes no difference, since these are used up first.
use Rattle.std.proofs.Common.{◌≡◌, ℕ, zero, suc, ◌≤◌, ◌<◌, ℤ, pos, List, [], Option, None, refl, sym, ap, subst, ◌∙◌, arith}
use Rattle.std.specs.Prelude.{Bool, ◌+ℤ◌, int_le, slice_get}
use Rattle.own_tree.specs.TypedSource.{Program}
use Rattle.own_shapes.specs.Types.{Types}
use Rattle.own_runs.specs.Destruction.{Passed}
use Rattle.own_runs.specs.Loops.{Flow, onward, while_turns, repeat_turns, for_turns}
use Rattle.own_runs.specs.Run.{behaviour, run_to, run_of, start}
use Rattle.own_runs.specs.Store.{State, Act, take_turn, turn_of}
use Rattle.own_ways.specs.Ways.{Way, gives, traps, stops, errs, strays, after, ◌>>=◌, ◌>>◌}
use Rattle.own_runs.proofs.Related.{IsPlain, IsClosed, AreLoopsRelated, then_r, pick_r, or_stray_r, pure_r, after_turn_r, entered_r}
use Rattle.own_runs.proofs.Growing.{state_of}

-- a step that stops has used up its turns
abbrev IsSpent : {A : Type 0} → Way State A → Type 0
IsSpent (gives a s) = Unit {0}
IsSpent (traps code at s) = Unit {0}
IsSpent (stops s) = s.turns ≡ 0
IsSpent (errs s) = Unit {0}
IsSpent (strays s) = Unit {0}

abbrev turns_of : {A : Type 0} → Way State A → ℕ
turns_of w = (state_of w).turns

-- with fewer turns than the depth two steps are the same
pub record Agrees (d : ℕ) (A : Type 0) (p q : Act A) : Type 0 where
  pub same : (s : State) → s.turns < d → p s ≡ q s
  pub spent : (s : State) → s.turns < d → IsSpent (p s)
  pub falls : (s : State) → turns_of (p s) ≤ s.turns

-- what follows, from a state with as few turns
after_same : {A B : Type 0} (d : ℕ) (w : Way State A) (f g : A → Act B) → turns_of w < d → ((a : A) → Agrees d B (f a) (g a)) → after w f ≡ after w g
after_same d (gives a s) f g lt hs = (hs a).same s lt
after_same d (traps code at s) f g lt hs = refl
after_same d (stops s) f g lt hs = refl
after_same d (errs s) f g lt hs = refl
after_same d (strays s) f g lt hs = refl

after_spent : {A B : Type 0} (d : ℕ) (w : Way State A) (f g : A → Act B) → turns_of w < d → IsSpent w → ((a : A) → Agrees d B (f a) (g a)) → IsSpent (after w f)
after_spent d (gives a s) f g lt h hs = (hs a).spent s lt
after_spent d (traps code at s) f g lt h hs = tt
after_spent d (stops s) f g lt h hs = h
after_spent d (errs s) f g lt h hs = tt
after_spent d (strays s) f g lt h hs = tt

after_falls : {A B : Type 0} (d : ℕ) (w : Way State A) (f g : A → Act B) → ((a : A) → Agrees d B (f a) (g a)) → turns_of (after w f) ≤ turns_of w
after_falls d (gives a s) f g hs = (hs a).falls s
after_falls d (traps code at s) f g hs = omega arith
after_falls d (stops s) f g hs = omega arith
after_falls d (errs s) f g hs = omega arith
after_falls d (strays s) f g hs = omega arith

agrees_then : {d : ℕ} {A B : Type 0} {p q : Act A} {f g : A → Act B} → Agrees d A p q → ((a : A) → Agrees d B (f a) (g a)) → Agrees d B (p >>= f) (q >>= g)
agrees_then {d = d} {p = p} {f = f} {g = g} h hs = record {
  same = λ s lt. after_same d (p s) f g (omega (arith, h.falls s, lt)) hs ∙ ap (λ v. after v g) (h.same s lt);
  spent = λ s lt. after_spent d (p s) f g (omega (arith, h.falls s, lt)) (h.spent s lt) hs;
  falls = λ s. omega (arith, after_falls d (p s) f g hs, h.falls s);
}

turn_spent : (m : ℕ) (s : State) → s.turns ≡ m → IsSpent (turn_of m s)
turn_spent zero s e = e
turn_spent (suc m) s e = tt

turn_falls : (m : ℕ) (s : State) → s.turns ≡ m → turns_of (turn_of m s) ≤ s.turns
turn_falls zero s e = omega arith
turn_falls (suc m) s e = omega (arith, e)

change_falls : (by : State → State) → IsPlain by → (s : State) → (by s).turns ≤ s.turns
change_falls by plain s = omega (arith, plain.keeps s)

agreeing : (d : ℕ) → IsClosed (Agrees d)
agreeing d = record {
  gives_ = λ a. record { same = λ s lt. refl; spent = λ s lt. tt; falls = λ s. omega arith };
  traps_ = λ code at. record { same = λ s lt. refl; spent = λ s lt. tt; falls = λ s. omega arith };
  errs_ = record { same = λ s lt. refl; spent = λ s lt. tt; falls = λ s. omega arith };
  strays_ = record { same = λ s lt. refl; spent = λ s lt. tt; falls = λ s. omega arith };
  looks = λ at h. record { same = λ s lt. refl; spent = λ s lt. tt; falls = λ s. omega arith };
  changes = λ by plain. record { same = λ s lt. refl; spent = λ s lt. tt; falls = change_falls by plain };
  turns_ = record { same = λ s lt. refl; spent = λ s lt. turn_spent s.turns s refl; falls = λ s. turn_falls s.turns s refl };
  follows = agrees_then;
}

-- ---- a turn leaves one less

turn_same : {A : Type 0} (d m : ℕ) (s : State) (p q : Act A) → m < suc d → Agrees d A p q → after (turn_of m s) (λ u. p) ≡ after (turn_of m s) (λ u. q)
turn_same d zero s p q lt h = refl
turn_same d (suc m) s p q lt h = h.same (record s { turns = m }) (omega (arith, lt))

turn_then_spent : {A : Type 0} (d m : ℕ) (s : State) (p q : Act A) → s.turns ≡ m → m < suc d → Agrees d A p q → IsSpent (after (turn_of m s) (λ u. p))
turn_then_spent d zero s p q e lt h = e
turn_then_spent d (suc m) s p q e lt h = h.spent (record s { turns = m }) (omega (arith, lt))

turn_then_falls : {A : Type 0} (d m : ℕ) (s : State) (p q : Act A) → s.turns ≡ m → Agrees d A p q → turns_of (after (turn_of m s) (λ u. p)) ≤ s.turns
turn_then_falls d zero s p q e h = omega arith
turn_then_falls d (suc m) s p q e h = omega (arith, e, h.falls (record s { turns = m }))

turn_then : {d : ℕ} {A : Type 0} {p q : Act A} → Agrees d A p q → Agrees (suc d) A (take_turn >> p) (take_turn >> q)
turn_then {d = d} {p = p} {q = q} h = record {
  same = λ s lt. turn_same d s.turns s p q lt h;
  spent = λ s lt. turn_then_spent d s.turns s p q refl lt h;
  falls = λ s. turn_then_falls d s.turns s p q refl h;
}

fewer : {d e : ℕ} {A : Type 0} {p q : Act A} → d ≤ e → Agrees e A p q → Agrees d A p q
fewer le h = record {
  same = λ s lt. h.same s (omega (arith, lt, le));
  spent = λ s lt. h.spent s (omega (arith, lt, le));
  falls = h.falls;
}

stop_agrees : {A : Type 0} {q : Act A} → Agrees 0 A (λ s. stops s) q
stop_agrees = record { same = λ s lt. absurd (omega (arith, lt)); spent = λ s lt. absurd (omega (arith, lt)); falls = λ s. omega arith }

-- ---- loops and calls

module _ (d : ℕ) where
  while_agrees : (x y : ℕ) → x ≤ d → x ≤ y → {c c' : Act Bool} {b b' : Act Flow} → Agrees d _ c c' → Agrees d _ b b' → Agrees x _ (while_turns x c b) (while_turns y c' b')
  while_agrees zero y lx ly h k = stop_agrees
  while_agrees (suc x) zero lx ly h k = absurd (omega (arith, ly))
  while_agrees (suc x) (suc y) lx ly h k =
      turn_then (then_r (Agrees x) (agreeing x) (fewer (omega (arith, lx)) h) (λ holds.
      pick_r (Agrees x) (agreeing x) holds
      (then_r (Agrees x) (agreeing x) (fewer (omega (arith, lx)) k) (λ f.
      after_turn_r (Agrees x) (agreeing x) f (while_agrees x y (omega (arith, lx)) (omega (arith, ly)) h k)))
      (pure_r (Agrees x) (agreeing x) onward)))

  repeat_agrees : (x y : ℕ) → x ≤ d → x ≤ y → {c c' : Act Bool} {b b' : Act Flow} → Agrees d _ c c' → Agrees d _ b b' → Agrees x _ (repeat_turns x c b) (repeat_turns y c' b')
  repeat_agrees zero y lx ly h k = stop_agrees
  repeat_agrees (suc x) zero lx ly h k = absurd (omega (arith, ly))
  repeat_agrees (suc x) (suc y) lx ly h k =
      turn_then (then_r (Agrees x) (agreeing x) (fewer (omega (arith, lx)) k) (λ f.
      after_turn_r (Agrees x) (agreeing x) f (then_r (Agrees x) (agreeing x) (fewer (omega (arith, lx)) h) (λ holds.
      pick_r (Agrees x) (agreeing x) holds (repeat_agrees x y (omega (arith, lx)) (omega (arith, ly)) h k) (pure_r (Agrees x) (agreeing x) onward)))))

  for_agrees : (x y : ℕ) → x ≤ d → x ≤ y → {b b' : ℤ → Act Flow} → ((n : ℤ) → Agrees d _ (b n) (b' n)) → (first last : ℤ) → Agrees x _ (for_turns x b first last) (for_turns y b' first last)
  for_agrees zero y lx ly h first last = stop_agrees
  for_agrees (suc x) zero lx ly h first last = absurd (omega (arith, ly))
  for_agrees (suc x) (suc y) lx ly h first last =
      pick_r (Agrees (suc x)) (agreeing (suc x)) (int_le first last)
      (turn_then (then_r (Agrees x) (agreeing x) (fewer (omega (arith, lx)) (h first)) (λ f.
      after_turn_r (Agrees x) (agreeing x) f (for_agrees x y (omega (arith, lx)) (omega (arith, ly)) h (first +ℤ pos 1) last))))
      (pure_r (Agrees (suc x)) (agreeing (suc x)) onward)

loops_agree : (d e : ℕ) → d ≤ e → AreLoopsRelated (Agrees d) d e
loops_agree d e le = record {
  whiles = while_agrees d d e (omega arith) le;
  repeats = repeat_agrees d d e (omega arith) le;
  fors = for_agrees d d e (omega arith) le;
}

calls_agree : (types : Types) (program : Program) (d e : ℕ) → d ≤ e → (k : ℕ) (maker : Option ℕ) (ps : List Passed) (level : ℕ)
    → Agrees d _ (run_to types program d k maker ps level) (run_to types program e k maker ps level)
calls_agree types program zero e le k maker ps level = stop_agrees
calls_agree types program (suc d) zero le k maker ps level = absurd (omega (arith, le))
calls_agree types program (suc d) (suc e) le k maker ps level =
    then_r (Agrees (suc d)) (agreeing (suc d)) (or_stray_r (Agrees (suc d)) (agreeing (suc d)) (slice_get program.bodies k)) (λ b.
    turn_then (entered_r (Agrees d) (agreeing d) types program (run_to types program d) (run_to types program e)
    (calls_agree types program d e (omega (arith, le))) d e (loops_agree d e (omega (arith, le))) k b maker ps level))

pub depths_agree : (types : Types) (program : Program) (input : List ℤ) (turns depth : ℕ) → turns < depth
    → behaviour (run_to types program depth program.main None [] 0 (start input turns)) ≡ run_of types program input turns
unfolding run_of
depths_agree types program input turns depth lt =
    ap behaviour (sym ((calls_agree types program (suc turns) depth (omega (arith, lt)) program.main None [] 0).same (start input turns) (omega arith)))

spent_of : {A : Type 0} (w : Way State A) (s : State) → IsSpent w → w ≡ stops s → s.turns ≡ 0
spent_of w s h e = subst IsSpent e h

pub stops_out_of_turns : (types : Types) (program : Program) (input : List ℤ) (turns : ℕ) (s : State)
    → run_to types program (suc turns) program.main None [] 0 (start input turns) ≡ stops s → s.turns ≡ 0
stops_out_of_turns types program input turns s e =
    spent_of _ s ((calls_agree types program (suc turns) (suc turns) (omega arith) program.main None [] 0).spent (start input turns) (omega arith)) e
