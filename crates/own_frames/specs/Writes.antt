-- What a write at a place leaves there.
use Rattle.std.specs.Prelude.{◌≡◌}
use Rattle.own_runs.specs.Store.{Location, State, put}
use Rattle.own_runs.specs.Values.{Val, found}
use Rattle.own_ways.specs.Ways.{gives}
use Rattle.own_frames.specs.Frame.{seen}

-- The write succeeds, and its value is seen.
pub record Wrote (l : Location) (v : Val) (st : State) : Type 0 where
  pub after_ : State
  pub put_is : put l v st ≡ gives tt after_
  pub seen_is : seen after_.store l ≡ found v

-- A write where something is seen succeeds, and is seen.
abbrev pub WritesAreSeen : Type 0
WritesAreSeen = (l : Location) (v old : Val) (st : State) → seen st.store l ≡ found old → Wrote l v st
