-- A step that does not stray.
use Rattle.own_runs.specs.Store.{State}
use Rattle.own_ways.specs.Ways.{Way, gives, traps, stops, errs, strays, Step}

-- Where it gives a value both the state and the value are as said. A trap, an end of turns or a hole is no straying.
abbrev pub CameOut : {A : Type 0} → (State → Type 0) → (A → Type 0) → Way State A → Type 0
CameOut J Q (gives a s) = J s × Q a
CameOut J Q (traps code at s) = Unit {0}
CameOut J Q (stops s) = Unit {0}
CameOut J Q (errs s) = Unit {0}
CameOut J Q (strays s) = ⊥

-- A step leads from states that are so to states and values that are as said, or ends the run otherwise than astray.
pub record Leads
    (I : State → Type 0) {A : Type 0} (Q : A → Type 0) (J : State → Type 0) (step : Step State A) : Type 0 where
  pub comes : (s : State) → I s → CameOut J Q (step s)

-- It stays among the states that are so.
abbrev pub Keeps : (State → Type 0) → {A : Type 0} → (A → Type 0) → Step State A → Type 0
Keeps I Q step = Leads I Q I step
