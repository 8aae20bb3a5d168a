-- With more turns a run that was cut goes on, and any other is the same.
use Rattle.std.proofs.Common.{◌≡◌, ℕ, zero, suc, ◌≤◌, ℤ, pos, List, [], ◌∷◌, ◌++◌, Option, None, inl, inr, refl, sym, ap, subst, ◌∙◌, arith, append_assoc}
use Rattle.std.specs.Prelude.{Bool, ◌+ℤ◌, int_le, slice_get}
use Rattle.own_tree.specs.TypedSource.{Program}
use Rattle.own_shapes.specs.Types.{Types}
use Rattle.own_runs.specs.Destruction.{Passed}
use Rattle.own_runs.specs.Events.{Item, printed, happened, event_line, output_of, traced_output_of, events_of}
use Rattle.own_runs.specs.Laws.{IsFront, GoesOn, IsAtFront}
use Rattle.own_runs.specs.Loops.{Flow, onward, while_turns, repeat_turns, for_turns}
use Rattle.own_runs.specs.Run.{Behaviour, behaviour, run_to, run_of, start}
use Rattle.own_runs.specs.Store.{State, Act, turn_of}
use Rattle.own_runs.specs.Values.{Val}
use Rattle.own_ways.specs.Ways.{Way, gives, traps, stops, errs, strays, after, ◌>>=◌, stop}
use Rattle.own_runs.proofs.Related.{IsPlain, IsClosed, AreLoopsRelated, then_r, next_r, pick_r, or_stray_r, pure_r, after_turn_r, entered_r}
use Rattle.own_runs.proofs.Growing.{log_of, front_self, front_trans, Grows, turn_grows, after_grows, grows_then, growing, while_grows, repeat_grows, for_grows, calls_grow}

abbrev pub with_turns : ℕ → State → State
with_turns n s = record s { turns = n }

-- the same state but for turns, of which there are no fewer
abbrev pub IsLater : {A : Type 0} → State → Way State A → (State → Way State A) → Type 0
IsLater s w out = (n : ℕ) × (s.turns ≤ n) × (w ≡ out (with_turns n s))

-- how a step comes out with more turns
abbrev pub Onward : {A : Type 0} → Way State A → Way State A → Type 0
Onward (gives a s) w = IsLater s w (gives a)
Onward (traps code at s) w = IsLater s w (traps code at)
Onward (stops s) w = IsFront s.log (log_of w)
Onward (errs s) w = IsLater s w errs
Onward (strays s) w = IsLater s w strays

pub record Continues (A : Type 0) (p q : Act A) : Type 0 where
  pub on : (s : State) (n : ℕ) → s.turns ≤ n → Onward (p s) (q (with_turns n s))
  pub grows : Grows A p q

turn_on : (m n : ℕ) (s : State) → m ≤ n → Onward (turn_of m s) (turn_of n (with_turns n s))
turn_on zero n s le = turn_grows n (with_turns n s)
turn_on (suc m) zero s le = absurd (omega (arith, le))
turn_on (suc m) (suc n) s le = (n, omega (arith, le), refl)

later_after : {A B : Type 0} (s : State) (w : Way State A) (g : A → Act B) (out : State → Way State A) (out' : State → Way State B)
    → ((t : State) → after (out t) g ≡ out' t) → IsLater s w out → IsLater s (after w g) out'
later_after s w g out out' same h = (h.0, h.1, ap (λ v. after v g) h.2 ∙ same (with_turns h.0 s))

after_on : {A B : Type 0} (w v : Way State A) (f g : A → Act B) → Onward w v → ((a : A) → Continues B (f a) (g a)) → Onward (after w f) (after v g)
after_on (gives a s) v f g h hs = subst (λ u. Onward (f a s) (after u g)) (sym h.2) ((hs a).on s h.0 h.1)
after_on (traps code at s) v f g h hs = later_after s v g (traps code at) (traps code at) (λ t. refl) h
after_on (stops s) v f g h hs = front_trans s.log (log_of v) (log_of (after v g)) h (after_grows v g (λ a. (hs a).grows.by))
after_on (errs s) v f g h hs = later_after s v g errs errs (λ t. refl) h
after_on (strays s) v f g h hs = later_after s v g strays strays (λ t. refl) h

abbrev nil : Unit {0}
nil = tt

change_on : (by : State → State) → IsPlain by → (s : State) (n : ℕ) → s.turns ≤ n → IsLater (by s) (gives nil (by (with_turns n s))) (gives nil)
change_on by plain s n le = (n, subst (λ m. m ≤ n) (sym (plain.keeps s)) le, ap (λ t. gives nil t) (plain.apart s n))

continues_then : {A B : Type 0} {p q : Act A} {f g : A → Act B} → Continues A p q → ((a : A) → Continues B (f a) (g a)) → Continues B (p >>= f) (q >>= g)
continues_then {p = p} {q = q} {f = f} {g = g} h hs = record {
  on = λ s n le. after_on (p s) (q (with_turns n s)) f g (h.on s n le) hs;
  grows = grows_then h.grows (λ a. (hs a).grows);
}

pub continuing : IsClosed Continues
continuing = record {
  gives_ = λ a. record { on = λ s n le. (n, le, refl); grows = growing.gives_ a };
  traps_ = λ code at. record { on = λ s n le. (n, le, refl); grows = growing.traps_ code at };
  errs_ = record { on = λ s n le. (n, le, refl); grows = growing.errs_ };
  strays_ = record { on = λ s n le. (n, le, refl); grows = growing.strays_ };
  looks = λ at h. record { on = λ s n le. (n, le, ap (λ a. gives a (with_turns n s)) (h s n)); grows = growing.looks at h };
  changes = λ by plain. record { on = change_on by plain; grows = growing.changes by plain };
  turns_ = record { on = λ s n le. turn_on s.turns n s le; grows = growing.turns_ };
  follows = continues_then;
}

-- where a run stops, another one goes on from what it wrote
from_stop : {A : Type 0} {p q : Act A} → Grows A p q → Continues A stop q
from_stop h = record { on = λ s n le. h.by (with_turns n s); grows = record { by = h.by } }

-- ---- loops and calls to a greater depth

while_on : (d e : ℕ) → d ≤ e → {c c' : Act Bool} {b b' : Act Flow} → Continues _ c c' → Continues _ b b' → Continues _ (while_turns d c b) (while_turns e c' b')
while_on zero e le h k = from_stop (while_grows e h.grows k.grows)
while_on (suc d) zero le h k = absurd (omega (arith, le))
while_on (suc d) (suc e) le h k =
    next_r Continues continuing continuing.turns_ (then_r Continues continuing h (λ holds.
    pick_r Continues continuing holds
    (then_r Continues continuing k (λ f. after_turn_r Continues continuing f (while_on d e (omega (arith, le)) h k)))
    (pure_r Continues continuing onward)))

repeat_on : (d e : ℕ) → d ≤ e → {c c' : Act Bool} {b b' : Act Flow} → Continues _ c c' → Continues _ b b' → Continues _ (repeat_turns d c b) (repeat_turns e c' b')
repeat_on zero e le h k = from_stop (repeat_grows e h.grows k.grows)
repeat_on (suc d) zero le h k = absurd (omega (arith, le))
repeat_on (suc d) (suc e) le h k =
    next_r Continues continuing continuing.turns_ (then_r Continues continuing k (λ f.
    after_turn_r Continues continuing f (then_r Continues continuing h (λ holds.
    pick_r Continues continuing holds (repeat_on d e (omega (arith, le)) h k) (pure_r Continues continuing onward)))))

for_on : (d e : ℕ) → d ≤ e → {b b' : ℤ → Act Flow} → ((n : ℤ) → Continues _ (b n) (b' n)) → (first last : ℤ) → Continues _ (for_turns d b first last) (for_turns e b' first last)
for_on zero e le h first last = from_stop (for_grows e (λ n. (h n).grows) first last)
for_on (suc d) zero le h first last = absurd (omega (arith, le))
for_on (suc d) (suc e) le h first last =
    pick_r Continues continuing (int_le first last)
    (next_r Continues continuing continuing.turns_ (then_r Continues continuing (h first) (λ f.
    after_turn_r Continues continuing f (for_on d e (omega (arith, le)) h (first +ℤ pos 1) last))))
    (pure_r Continues continuing onward)

loops_on : (d e : ℕ) → d ≤ e → AreLoopsRelated Continues d e
loops_on d e le = record { whiles = while_on d e le; repeats = repeat_on d e le; fors = for_on d e le }

calls_on : (types : Types) (program : Program) (d e : ℕ) → d ≤ e → (k : ℕ) (maker : Option ℕ) (ps : List Passed) (level : ℕ)
    → Continues _ (run_to types program d k maker ps level) (run_to types program e k maker ps level)
calls_on types program zero e le k maker ps level = from_stop (calls_grow types program e k maker ps level)
calls_on types program (suc d) zero le k maker ps level = absurd (omega (arith, le))
calls_on types program (suc d) (suc e) le k maker ps level =
    then_r Continues continuing (or_stray_r Continues continuing (slice_get program.bodies k)) (λ b.
    next_r Continues continuing continuing.turns_
    (entered_r Continues continuing types program (run_to types program d) (run_to types program e) (calls_on types program d e (omega (arith, le))) d e (loops_on d e (omega (arith, le))) k b maker ps level))

-- ---- behaviours

log_is : (w : Way State Val) → (behaviour w).log ≡ log_of w
log_is (gives v s) = refl
log_is (traps code at s) = refl
log_is (stops s) = refl
log_is (errs s) = refl
log_is (strays s) = refl

goes_on_of : (w v : Way State Val) → Onward w v → GoesOn (behaviour w) (behaviour v)
goes_on_of (gives a s) v h = inl (sym (ap behaviour h.2))
goes_on_of (traps code at s) v h = inl (sym (ap behaviour h.2))
goes_on_of (stops s) v h = inr (refl, (h.0, log_is v ∙ h.1))
goes_on_of (errs s) v h = inl (sym (ap behaviour h.2))
goes_on_of (strays s) v h = inl (sym (ap behaviour h.2))

pub runs_go_on : (types : Types) (program : Program) (input : List ℤ) (m n : ℕ) → m ≤ n → GoesOn (run_of types program input m) (run_of types program input n)
unfolding run_of
runs_go_on types program input m n le =
    goes_on_of (run_to types program (suc m) program.main None [] 0 (start input m)) (run_to types program (suc n) program.main None [] 0 (start input n))
    ((calls_on types program (suc m) (suc n) (omega (arith, le)) program.main None [] 0).on (start input m) n le)

-- ---- outputs

output_append : (xs ys : List Item) → output_of (xs ++ ys) ≡ output_of xs ++ output_of ys
output_append [] ys = refl
output_append (printed bytes ∷ xs) ys = ap (λ l. bytes ++ l) (output_append xs ys) ∙ sym (append_assoc bytes (output_of xs) (output_of ys))
output_append (happened event ∷ xs) ys = output_append xs ys

traced_append : (types : Types) (xs ys : List Item) → traced_output_of types (xs ++ ys) ≡ traced_output_of types xs ++ traced_output_of types ys
traced_append types [] ys = refl
traced_append types (printed bytes ∷ xs) ys =
    ap (λ l. bytes ++ l) (traced_append types xs ys) ∙ sym (append_assoc bytes (traced_output_of types xs) (traced_output_of types ys))
traced_append types (happened event ∷ xs) ys =
    ap (λ l. event_line types event ++ l) (traced_append types xs ys)
    ∙ sym (append_assoc (event_line types event) (traced_output_of types xs) (traced_output_of types ys))

events_append : (xs ys : List Item) → events_of (xs ++ ys) ≡ events_of xs ++ events_of ys
events_append [] ys = refl
events_append (printed bytes ∷ xs) ys = events_append xs ys
events_append (happened event ∷ xs) ys = ap (λ l. event ∷ l) (events_append xs ys)

at_front : (types : Types) (b c : Behaviour) → GoesOn b c → IsAtFront types b c
at_front types b c (inl same) =
    subst (λ d. IsAtFront types b d) same (record { printed = front_self _; traced = front_self _; happened = front_self _ })
at_front types b c (inr h) = let f = h.1 in record {
  printed = (output_of f.0, ap output_of f.1 ∙ output_append b.log f.0);
  traced = (traced_output_of types f.0, ap (traced_output_of types) f.1 ∙ traced_append types b.log f.0);
  happened = (events_of f.0, ap events_of f.1 ∙ events_append b.log f.0);
}

pub outputs_go_on : (types : Types) (program : Program) (input : List ℤ) (m n : ℕ) → m ≤ n → IsAtFront types (run_of types program input m) (run_of types program input n)
outputs_go_on types program input m n le = at_front types _ _ (runs_go_on types program input m n le)
