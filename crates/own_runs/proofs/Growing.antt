-- Each run only adds to the log.
use Rattle.std.proofs.Common.{ℕ, zero, suc, ℤ, pos, List, [], ◌++◌, Option, sym, ap, ◌∙◌}
use Rattle.std.proofs.lemmas.List.{append-nil, append_assoc}
use Rattle.std.specs.Prelude.{Bool, ◌+ℤ◌, int_le, slice_get}
use Rattle.own_tree.specs.TypedSource.{Program}
use Rattle.own_shapes.specs.Types.{Types}
use Rattle.own_runs.specs.Destruction.{Passed}
use Rattle.own_runs.specs.Events.{Item}
use Rattle.own_runs.specs.Laws.{IsFront}
use Rattle.own_runs.specs.Loops.{Flow, onward, while_turns, repeat_turns, for_turns}
use Rattle.own_runs.specs.Run.{run_to}
use Rattle.own_runs.specs.Store.{State, Act, turn_of}
use Rattle.own_ways.specs.Ways.{Way, gives, traps, stops, errs, strays, after, ◌>>=◌, stop}
use Rattle.own_runs.proofs.Related.{IsClosed, AreLoopsRelated, then_r, next_r, pick_r, or_stray_r, pure_r, after_turn_r, entered_r}

abbrev pub state_of : {A : Type 0} → Way State A → State
state_of (gives a s) = s
state_of (traps code at s) = s
state_of (stops s) = s
state_of (errs s) = s
state_of (strays s) = s

abbrev pub log_of : {A : Type 0} → Way State A → List Item
log_of w = (state_of w).log

pub front_self : {A : Type 0} (xs : List A) → IsFront xs xs
front_self xs = ([], sym (append-nil xs))

pub front_trans : {A : Type 0} (xs ys zs : List A) → IsFront xs ys → IsFront ys zs → IsFront xs zs
front_trans xs ys zs f g = (f.0 ++ g.0, g.1 ∙ ap (λ l. l ++ g.0) f.1 ∙ append_assoc xs f.0 g.0)

-- of two steps the second one only adds to the log
pub record Grows (A : Type 0) (p q : Act A) : Type 0 where
  pub by : (s : State) → IsFront s.log (log_of (q s))

pub turn_grows : (m : ℕ) (s : State) → IsFront s.log (log_of (turn_of m s))
turn_grows zero s = front_self s.log
turn_grows (suc m) s = front_self s.log

pub after_grows : {A B : Type 0} (w : Way State A) (g : A → Act B) → ((a : A) (s : State) → IsFront s.log (log_of (g a s))) → IsFront (log_of w) (log_of (after w g))
after_grows (gives a s) g h = h a s
after_grows (traps code at s) g h = front_self s.log
after_grows (stops s) g h = front_self s.log
after_grows (errs s) g h = front_self s.log
after_grows (strays s) g h = front_self s.log

pub stop_grows : {A : Type 0} {p : Act A} → Grows A p stop
stop_grows = record { by = λ s. front_self s.log }

pub grows_then : {A B : Type 0} {p q : Act A} {f g : A → Act B} → Grows A p q → ((a : A) → Grows B (f a) (g a)) → Grows B (p >>= f) (q >>= g)
grows_then {q = q} {g = g} h hs =
    record { by = λ s. front_trans s.log (log_of (q s)) (log_of (after (q s) g)) (h.by s) (after_grows (q s) g (λ a. (hs a).by)) }

pub growing : IsClosed Grows
growing = record {
  gives_ = λ a. record { by = λ s. front_self s.log };
  traps_ = λ code at. record { by = λ s. front_self s.log };
  errs_ = record { by = λ s. front_self s.log };
  strays_ = record { by = λ s. front_self s.log };
  looks = λ at h. record { by = λ s. front_self s.log };
  changes = λ by plain. record { by = plain.adds };
  turns_ = record { by = λ s. turn_grows s.turns s };
  follows = grows_then;
}

pub while_grows : (d : ℕ) {c c' : Act Bool} {b b' : Act Flow} → Grows _ c c' → Grows _ b b' → Grows _ (while_turns d c b) (while_turns d c' b')
while_grows zero h k = stop_grows
while_grows (suc d) h k =
    next_r Grows growing growing.turns_ (then_r Grows growing h (λ holds.
    pick_r Grows growing holds (then_r Grows growing k (λ f. after_turn_r Grows growing f (while_grows d h k))) (pure_r Grows growing onward)))

pub repeat_grows : (d : ℕ) {c c' : Act Bool} {b b' : Act Flow} → Grows _ c c' → Grows _ b b' → Grows _ (repeat_turns d c b) (repeat_turns d c' b')
repeat_grows zero h k = stop_grows
repeat_grows (suc d) h k =
    next_r Grows growing growing.turns_ (then_r Grows growing k (λ f.
    after_turn_r Grows growing f (then_r Grows growing h (λ holds. pick_r Grows growing holds (repeat_grows d h k) (pure_r Grows growing onward)))))

pub for_grows : (d : ℕ) {b b' : ℤ → Act Flow} → ((n : ℤ) → Grows _ (b n) (b' n)) → (first last : ℤ) → Grows _ (for_turns d b first last) (for_turns d b' first last)
for_grows zero h first last = stop_grows
for_grows (suc d) h first last =
    pick_r Grows growing (int_le first last)
    (next_r Grows growing growing.turns_ (then_r Grows growing (h first) (λ f. after_turn_r Grows growing f (for_grows d h (first +ℤ pos 1) last))))
    (pure_r Grows growing onward)

pub loops_grow : (d : ℕ) → AreLoopsRelated Grows d d
loops_grow d = record { whiles = while_grows d; repeats = repeat_grows d; fors = for_grows d }

pub calls_grow : (types : Types) (program : Program) (d k : ℕ) (maker : Option ℕ) (ps : List Passed) (level : ℕ)
    → Grows _ (run_to types program d k maker ps level) (run_to types program d k maker ps level)
calls_grow types program zero k maker ps level = stop_grows
calls_grow types program (suc d) k maker ps level =
    then_r Grows growing (or_stray_r Grows growing (slice_get program.bodies k)) (λ b.
    next_r Grows growing growing.turns_
    (entered_r Grows growing types program (run_to types program d) (run_to types program d) (calls_grow types program d) d d (loops_grow d) k b maker ps level))
