-- A worked program is untouched and ends each value once, for every input and any number of turns.
use Rattle.std.proofs.Common.{◌≡◌, ℕ, ◌≤◌, ◌+◌, ℤ, Bool, true, false, List, [], ◌∷◌, refl, sym, ap, subst, ◌∙◌, arith}
use Rattle.std.proofs.lemmas.Bool.Decides.{Decides-eqb}
use Rattle.std.specs.Prelude.{◌==◌, if◌then◌else◌}
use Rattle.std.specs.Fmt.{digits}
use Rattle.own_shapes.specs.Types.{types_declared}
use Rattle.own_runs.specs.Events.{Event, made, used, ended_by_deinit, ended_by_discard}
use Rattle.own_runs.specs.Laws.{IsOrderly}
use Rattle.own_runs.specs.Once.{IsLife, IsMade, HasEnd, events_with, IsUntouched, EndsOnce}
use Rattle.own_runs.specs.Run.{Outcome, Ended, Trapped, Cut, Wrong, Behaviour, events, run_of}
use Rattle.own_runs.proofs.GoingOn.{runs_go_on}
use Rattle.own_runs.proofs.LongRuns.{ended_stays, untouched_by_long_runs, once_by_long_runs}
use Rattle.own_runs.proofs.Rows.{two_files}
use Rattle.own_runs.proofs.Spelled.{file_types}

ends_at_20 : (input : List ℤ) → (run_of file_types two_files input 20).outcome ≡ Ended
unfolding run_of types_declared digits
ends_at_20 input = refl

-- so with more turns it is the same run
same_from_20 : (input : List ℤ) (n : ℕ) → 20 ≤ n → run_of file_types two_files input 20 ≡ run_of file_types two_files input n
same_from_20 input n le = ended_stays _ _ (runs_go_on file_types two_files input 20 n le) (ends_at_20 input)

IsNotWrong : Outcome → Type 0
IsNotWrong Ended = Unit {0}
IsNotWrong (Trapped code at) = Unit {0}
IsNotWrong Cut = Unit {0}
IsNotWrong Wrong = ⊥

ended_not_wrong : (o : Outcome) → o ≡ Ended → o ≡ Wrong → ⊥
unfolding IsNotWrong
ended_not_wrong o e w = subst IsNotWrong (sym e ∙ w) tt

two_files_untouched : IsUntouched file_types two_files
two_files_untouched = untouched_by_long_runs file_types two_files (λ input turns.
    (turns + 20, omega arith, ended_not_wrong _ (ap (λ b. b.outcome) (sym (same_from_20 input (turns + 20) (omega arith))) ∙ ends_at_20 input)))

-- ---- the events of the two files, of which the first one is closed

two_lives : List Event
two_lives = made 0 1 ∷ made 0 2 ∷ used 0 1 ∷ ended_by_discard 0 1 ∷ used 0 2 ∷ ended_by_deinit 0 2 ∷ []

lives_are : (input : List ℤ) → events (run_of file_types two_files input 20) ≡ two_lives
unfolding run_of types_declared digits two_lives
lives_are input = refl

abbrev keep : Bool → Event → List Event → List Event
keep b e es = if b then e ∷ es else es

one_not_two : (n : ℕ) → n ≡ 1 → n ≡ 2 → ⊥
one_not_two n e f = omega (arith, e, f)

-- those of a number, by whether it is the first one's and whether it is the second one's
abbrev picked : Bool → Bool → List Event
picked first second =
    keep first (made 0 1) (keep second (made 0 2) (keep first (used 0 1) (keep first (ended_by_discard 0 1)
    (keep second (used 0 2) (keep second (ended_by_deinit 0 2) [])))))

is_orderly : (number : ℕ) (first second : Bool) → (1 == number) ≡ first → (2 == number) ≡ second
    → IsLife (picked first second) × (IsMade (picked first second) → HasEnd (picked first second))
is_orderly number true true e f = absurd (one_not_two number (sym ((Decides-eqb 1 number).0 e)) (sym ((Decides-eqb 2 number).0 f)))
is_orderly number true false e f = (refl, λ h. tt)
is_orderly number false true e f = (refl, λ h. tt)
is_orderly number false false e f = (tt, λ h. h)

lives_of : (number : ℕ) → IsLife (events_with number two_lives) × (IsMade (events_with number two_lives) → HasEnd (events_with number two_lives))
unfolding two_lives
lives_of number = is_orderly number (1 == number) (2 == number) refl refl

IsOrderlyRun : ℕ → Behaviour → Type 0
IsOrderlyRun number b =
    IsLife (events_with number (events b)) × (b.outcome ≡ Ended → IsMade (events_with number (events b)) → HasEnd (events_with number (events b)))

orderly_at_20 : (input : List ℤ) (number : ℕ) → IsOrderlyRun number (run_of file_types two_files input 20)
unfolding IsOrderlyRun
orderly_at_20 input number =
    let h = subst (λ es. IsLife (events_with number es) × (IsMade (events_with number es) → HasEnd (events_with number es))) (sym (lives_are input)) (lives_of number) in
    (h.0, λ e. h.1)

orderly_from_20 : (input : List ℤ) (number n : ℕ) → 20 ≤ n → IsOrderly file_types two_files input n number
unfolding IsOrderlyRun
orderly_from_20 input number n le = subst (IsOrderlyRun number) (same_from_20 input n le) (orderly_at_20 input number)

two_files_end_once : EndsOnce file_types two_files
two_files_end_once = once_by_long_runs file_types two_files (λ input turns number.
    (turns + 20, omega arith, orderly_from_20 input number (turns + 20) (omega arith)))
