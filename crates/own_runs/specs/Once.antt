-- What an accepted program promises of its runs: it touches no hole, and each tracked value ends once.
use Rattle.std.specs.Prelude.{◌≡◌, ◌≢◌, ℕ, ℤ, ◌==◌, if◌then◌else◌, List, [], ◌∷◌}
use Rattle.own_tree.specs.TypedSource.{Program}
use Rattle.own_shapes.specs.Types.{Types}
use Rattle.own_runs.specs.Events.{Event, made, used, ended_by_deinit, ended_by_discard}
use Rattle.own_runs.specs.Run.{Ended, Wrong, events, run_of}

abbrev pub number_of : Event → ℕ
number_of (made type number) = number
number_of (used type number) = number
number_of (ended_by_deinit type number) = number
number_of (ended_by_discard type number) = number

-- the events of one number, in order
abbrev pub events_with : ℕ → List Event → List Event
events_with number [] = []
events_with number (e ∷ es) = if number_of e == number then e ∷ events_with number es else events_with number es

-- after its birth: any uses, and then at most one end and nothing after it
abbrev pub IsLived : List Event → Type 0
IsLived [] = Unit {0}
IsLived (used type number ∷ es) = IsLived es
IsLived (ended_by_deinit type number ∷ es) = es ≡ []
IsLived (ended_by_discard type number ∷ es) = es ≡ []
IsLived (made type number ∷ es) = ⊥

-- A number that is never born has no event.
abbrev pub IsLife : List Event → Type 0
IsLife [] = Unit {0}
IsLife (made type number ∷ es) = IsLived es
IsLife (used type number ∷ es) = ⊥
IsLife (ended_by_deinit type number ∷ es) = ⊥
IsLife (ended_by_discard type number ∷ es) = ⊥

abbrev pub HasEnd : List Event → Type 0
HasEnd [] = ⊥
HasEnd (ended_by_deinit type number ∷ es) = Unit {0}
HasEnd (ended_by_discard type number ∷ es) = Unit {0}
HasEnd (made type number ∷ es) = HasEnd es
HasEnd (used type number ∷ es) = HasEnd es

abbrev pub IsMade : List Event → Type 0
IsMade [] = ⊥
IsMade (made type number ∷ es) = Unit {0}
IsMade (used type number ∷ es) = IsMade es
IsMade (ended_by_deinit type number ∷ es) = IsMade es
IsMade (ended_by_discard type number ∷ es) = IsMade es

-- the events of one number in a run
abbrev pub life : Types → Program → List ℤ → (turns number : ℕ) → List Event
life types program input turns number = events_with number (events (run_of types program input turns))

-- no run is wrong
abbrev pub IsUntouched : Types → Program → Type 0
IsUntouched types program = (input : List ℤ) (turns : ℕ) → (run_of types program input turns).outcome ≢ Wrong

-- In each run a number is born at most once and ends at most once, and in a run that ends each number that was born
-- has ended.
pub record EndsOnce (types : Types) (program : Program) : Type 0 where
  pub lives : (input : List ℤ) (turns number : ℕ) → IsLife (life types program input turns number)
  pub ends :
      (input : List ℤ) (turns number : ℕ) → (run_of types program input turns).outcome ≡ Ended
      → IsMade (life types program input turns number) → HasEnd (life types program input turns number)
