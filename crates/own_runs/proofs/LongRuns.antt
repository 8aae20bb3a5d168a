-- What holds of a run holds of those with fewer turns.
use Rattle.std.proofs.Common.{◌≡◌, ℕ, ◌≤◌, ℤ, Bool, true, false, List, [], ◌∷◌, ◌++◌, inl, inr, refl, sym, ap, subst, ◌∙◌}
use Rattle.std.specs.Prelude.{◌==◌, ◌≢◌, if◌then◌else◌}
use Rattle.own_tree.specs.TypedSource.{Program}
use Rattle.own_shapes.specs.Types.{Types}
use Rattle.own_runs.specs.Events.{Event, made, used, ended_by_deinit, ended_by_discard}
use Rattle.own_runs.specs.Laws.{GoesOn, IsOrderly}
use Rattle.own_runs.specs.Once.{number_of, events_with, IsLived, IsLife, HasEnd, IsMade, life, IsUntouched, EndsOnce}
use Rattle.own_runs.specs.Run.{Outcome, Ended, Trapped, Cut, Wrong, Behaviour, events, run_of}
use Rattle.own_runs.proofs.GoingOn.{runs_go_on, outputs_go_on}

IsCut : Outcome → Type 0
IsCut Ended = ⊥
IsCut (Trapped code at) = ⊥
IsCut Cut = Unit {0}
IsCut Wrong = ⊥

not_cut_wrong : (o : Outcome) → o ≡ Cut → o ≡ Wrong → ⊥
unfolding IsCut
not_cut_wrong o c w = subst IsCut (sym c ∙ w) tt

not_cut_ended : (o : Outcome) → o ≡ Cut → o ≡ Ended → ⊥
unfolding IsCut
not_cut_ended o c w = subst IsCut (sym c ∙ w) tt

-- an outcome that is no cut stays, with the whole behaviour
wrong_stays : (b c : Behaviour) → GoesOn b c → b.outcome ≡ Wrong → c.outcome ≡ Wrong
wrong_stays b c (inl same) w = ap (λ d. d.outcome) (sym same) ∙ w
wrong_stays b c (inr h) w = absurd (not_cut_wrong b.outcome h.0 w)

pub ended_stays : (b c : Behaviour) → GoesOn b c → b.outcome ≡ Ended → b ≡ c
ended_stays b c (inl same) w = same
ended_stays b c (inr h) w = absurd (not_cut_ended b.outcome h.0 w)

pub untouched_by_long_runs : (types : Types) (program : Program)
    → ((input : List ℤ) (turns : ℕ) → (n : ℕ) × (turns ≤ n) × ((run_of types program input n).outcome ≢ Wrong))
    → IsUntouched types program
untouched_by_long_runs types program long input turns wrong =
    let n = long input turns in
    n.2 (wrong_stays (run_of types program input turns) (run_of types program input n.0) (runs_go_on types program input turns n.0 n.1) wrong)

-- ---- the front of a life is one

IsSome : List Event → Type 0
IsSome [] = ⊥
IsSome (x ∷ xs) = Unit {0}

not_empty : (x : Event) (xs : List Event) → x ∷ xs ≡ [] → ⊥
unfolding IsSome
not_empty x xs e = subst IsSome e tt

lived_front : (xs ys : List Event) → IsLived (xs ++ ys) → IsLived xs
lived_front [] ys h = tt
lived_front (used t i ∷ xs) ys h = lived_front xs ys h
lived_front (ended_by_deinit t i ∷ []) ys h = refl
lived_front (ended_by_deinit t i ∷ x ∷ xs) ys h = absurd (not_empty x (xs ++ ys) h)
lived_front (ended_by_discard t i ∷ []) ys h = refl
lived_front (ended_by_discard t i ∷ x ∷ xs) ys h = absurd (not_empty x (xs ++ ys) h)
lived_front (made t i ∷ xs) ys h = h

life_front : (xs ys : List Event) → IsLife (xs ++ ys) → IsLife xs
life_front [] ys h = tt
life_front (made t i ∷ xs) ys h = lived_front xs ys h
life_front (used t i ∷ xs) ys h = h
life_front (ended_by_deinit t i ∷ xs) ys h = h
life_front (ended_by_discard t i ∷ xs) ys h = h

kept_append : (b : Bool) (x : Event) (whole front back : List Event) → whole ≡ front ++ back → (if b then x ∷ whole else whole) ≡ (if b then x ∷ front else front) ++ back
kept_append true x whole front back e = ap (λ l. x ∷ l) e
kept_append false x whole front back e = e

with_append : (number : ℕ) (xs ys : List Event) → events_with number (xs ++ ys) ≡ events_with number xs ++ events_with number ys
with_append number [] ys = refl
with_append number (x ∷ xs) ys = kept_append (number_of x == number) x _ _ _ (with_append number xs ys)

life_of_fewer : (types : Types) (program : Program) (input : List ℤ) (m n number : ℕ) → m ≤ n → IsLife (life types program input n number) → IsLife (life types program input m number)
life_of_fewer types program input m n number le h =
    let f = (outputs_go_on types program input m n le).happened in
    life_front (events_with number (events (run_of types program input m))) (events_with number f.0)
    (subst IsLife (ap (events_with number) f.1 ∙ with_append number (events (run_of types program input m)) f.0) h)

IsEnding : ℕ → Behaviour → Type 0
IsEnding number b = b.outcome ≡ Ended → IsMade (events_with number (events b)) → HasEnd (events_with number (events b))

end_of_fewer : (types : Types) (program : Program) (input : List ℤ) (m n number : ℕ) → m ≤ n → IsEnding number (run_of types program input n) → IsEnding number (run_of types program input m)
unfolding IsEnding
end_of_fewer types program input m n number le h ended =
    let same = ended_stays (run_of types program input m) (run_of types program input n) (runs_go_on types program input m n le) ended in
    subst (IsEnding number) (sym same) h ended

pub once_by_long_runs : (types : Types) (program : Program)
    → ((input : List ℤ) (turns number : ℕ) → (n : ℕ) × (turns ≤ n) × IsOrderly types program input n number)
    → EndsOnce types program
unfolding IsEnding
once_by_long_runs types program long = record {
  lives = λ input turns number. let n = long input turns number in life_of_fewer types program input turns n.0 number n.1 n.2.0;
  ends = λ input turns number. let n = long input turns number in end_of_fewer types program input turns n.0 number n.1 n.2.1;
}
