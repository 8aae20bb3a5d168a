-- What is proved of the definitions, for contracts to cite.
use Rattle.std.specs.Prelude.{◌≡◌, ◌≢◌, ℕ, suc, ◌≤◌, ◌<◌, ℤ, ◌⊎◌, List, [], ◌∷◌, ◌++◌, None}
use Rattle.own_tree.specs.TypedSource.{Program}
use Rattle.own_shapes.specs.Types.{Types}
use Rattle.own_runs.specs.Once.{life, IsLife, IsMade, HasEnd, IsUntouched, EndsOnce}
use Rattle.own_runs.specs.Run.{Behaviour, Ended, Cut, Wrong, output, traced_output, events, behaviour, run_to, start, run_of}
use Rattle.own_runs.specs.Store.{State}
use Rattle.own_runs.specs.Values.{Val, Part, found, value_at, with_value_at}
use Rattle.own_ways.specs.Ways.{stops}

-- one list stands at the front of another
abbrev pub IsFront : {A : Type 0} → List A → List A → Type 0
IsFront front whole = (rest : List _) × (whole ≡ front ++ rest)

-- one behaviour is another, or it was cut and the other goes on
abbrev pub GoesOn : Behaviour → Behaviour → Type 0
GoesOn b c = (b ≡ c) ⊎ ((b.outcome ≡ Cut) × IsFront b.log c.log)

-- With more turns a run that was cut goes on, and any other is the same.
abbrev pub RunsGoOn : Type 0
RunsGoOn =
    (types : Types) (program : Program) (input : List ℤ) (m n : ℕ) → m ≤ n
    → GoesOn (run_of types program input m) (run_of types program input n)

-- so what it prints, with its events or without them, and the events stand at the front of those with more turns
pub record IsAtFront (types : Types) (b c : Behaviour) : Type 0 where
  pub printed : IsFront (output b) (output c)
  pub traced : IsFront (traced_output types b) (traced_output types c)
  pub happened : IsFront (events b) (events c)

abbrev pub OutputsGoOn : Type 0
OutputsGoOn =
    (types : Types) (program : Program) (input : List ℤ) (m n : ℕ) → m ≤ n
    → IsAtFront types (run_of types program input m) (run_of types program input n)

-- The depth of calls and loops makes no difference where it is greater than the turns, which are used up first.
abbrev pub DepthsAgree : Type 0
DepthsAgree =
    (types : Types) (program : Program) (input : List ℤ) (turns depth : ℕ) → turns < depth
    → behaviour (run_to types program depth program.main None [] 0 (start input turns)) ≡ run_of types program input turns

-- A run that stops has used up its turns.
abbrev pub StopsOutOfTurns : Type 0
StopsOutOfTurns =
    (types : Types) (program : Program) (input : List ℤ) (turns : ℕ) (s : State)
    → run_to types program (suc turns) program.main None [] 0 (start input turns) ≡ stops s → s.turns ≡ 0

-- two ways into a value part at some step
abbrev pub AreApart : List Part → List Part → Type 0
AreApart [] other = ⊥
AreApart (part ∷ way) [] = ⊥
AreApart (part ∷ way) (next ∷ other) = (part ≢ next) ⊎ ((part ≡ next) × AreApart way other)

-- What is written at a place of a value stands there, and what lies apart from it is as before.
abbrev pub WritesAreRead : Type 0
WritesAreRead =
    (way : List Part) (new old changed : Val) → with_value_at way new old ≡ found changed → value_at way changed ≡ found new

abbrev pub WritesStayApart : Type 0
WritesStayApart =
    (way other : List Part) (new old changed : Val) → AreApart way other → with_value_at way new old ≡ found changed
    → value_at other changed ≡ value_at other old

-- To show a program untouched, and that it ends each value once, it is enough to look at runs with more turns.
abbrev pub UntouchedByLongRuns : Type 0
UntouchedByLongRuns =
    (types : Types) (program : Program)
    → ((input : List ℤ) (turns : ℕ) → (n : ℕ) × (turns ≤ n) × ((run_of types program input n).outcome ≢ Wrong))
    → IsUntouched types program

-- the life of each number is one in the run, and where that ends each number that was born has ended
abbrev pub IsOrderly : Types → Program → List ℤ → (turns number : ℕ) → Type 0
IsOrderly types program input turns number =
    IsLife (life types program input turns number)
    × ((run_of types program input turns).outcome ≡ Ended → IsMade (life types program input turns number) → HasEnd (life types program input turns number))

abbrev pub OnceByLongRuns : Type 0
OnceByLongRuns =
    (types : Types) (program : Program)
    → ((input : List ℤ) (turns number : ℕ) → (n : ℕ) × (turns ≤ n) × IsOrderly types program input n number)
    → EndsOnce types program
