-- What an activation knows of the closures that it holds, and what a call is granted to which a closure literal is
-- passed beside an `inout`.
use Rattle.std.specs.Prelude.{ℕ, zero, suc, ◌<◌, ◌≡◌, ◌⊎◌, Bool, true, false, ◌==◌, List, Some, slice_get, take}
use Rattle.own_tree.specs.TypedSource.{Program}
use Rattle.own_runs.specs.Store.{Location, Slot, absent, holds, refers, runs, Activation, State, below}
use Rattle.own_runs.specs.Values.{Part}
use Rattle.own_frames.specs.Frame.{links, Apart, Grant, Reach, home_of, at_root, Takes, Calls, Closed}

-- where a binding of an activation lives: one that refers to a place lives there
abbrev pub home_by : ℕ → ℕ → Slot → Location
home_by me x absent = at_root me x
home_by me x (holds v) = at_root me x
home_by me x (refers l) = l
home_by me x (runs k m) = at_root me x

-- What is known of the aliases of an activation from its call: they lead to older activations, and two of them lie
-- apart unless both are only read.
pub record Shaped (program : Program) (reach : Reach) (me number : ℕ) (shape : Activation) : Type 0 where
  pub whose : shape.body ≡ number
  pub linked : (x : ℕ) (l : Location) → shape.slots x ≡ refers l → l.activation < me
  pub alone : (x y : ℕ) (l k : Location) → (x ≡ y → ⊥) → shape.slots x ≡ refers l → shape.slots y ≡ refers k
      → Apart l k ⊎ ((reach.borrowed x ≡ true) × (reach.borrowed y ≡ true))

module _ (program : Program) (reach : Reach) where
  -- All closures that an activation holds, or is the body of, share one grant.
  pub record Holding (shared : Grant) (me : ℕ) (shape : Activation) (st : State) : Type 0 where
    -- made before it began: no binding of this activation is reached
    pub lower : (w : Location) → shared.may w → w.activation < me
    -- what it was lent besides lies apart from what they may change
    pub apart : (y : ℕ) (l w : Location) → shape.slots y ≡ refers l → shared.may w → Apart w l
    pub held : (x k m : ℕ) → shape.slots x ≡ runs k m
        → Calls program reach shared k m × Takes program reach k (reach.formals x)
    pub closed : Closed program reach shared (links (take me st.store))

  -- the captures of a literal of this activation, which are its own bindings
  pub record IsLiteral (me number : ℕ) (k : ℕ) : Type 0 where
    pub own : (x : ℕ) (c : Bool) → reach.captured k x c → (number == home_of program x) ≡ true
    -- what may not be changed is captured by no change
    pub may_change : (x : ℕ) → reach.captured k x true → reach.borrowed x ≡ false

  -- a call that is passed binding b `inout`, and a literal of body k
  module _ (shared : Grant) (me : ℕ) (shape : Activation) (k b : ℕ) where
    -- what the literal may change
    abbrev pub Changed : Location → Type 0
    Changed w = (x : ℕ) × reach.captured k x true × ((ks : List Part) × (w ≡ below (home_by me x (shape.slots x)) ks))

    -- what the closures of the call may change
    abbrev pub ClosureMay : Location → Type 0
    ClosureMay w = Changed w ⊎ shared.may w

    -- what the call may change, and what it may look up
    abbrev pub May : Location → Type 0
    May w = ((ks : List Part) × (w ≡ below (home_by me b (shape.slots b)) ks)) ⊎ ClosureMay w

    abbrev pub Sees : ℕ → Bool → ℕ → Type 0
    Sees x c m = ((m ≡ me) × reach.captured k x c) ⊎ shared.sees x c m

  -- ---- variables that are looked up from one activation

  -- one step: the variable is declared here, or it is looked up from the maker
  abbrev pub ResolvesAt : Activation → ℕ → ℕ → Location → (ℕ → Type 0) → Type 0
  ResolvesAt act x m w outer =
      (((act.body == home_of program x) ≡ true) × (w ≡ home_by m x (act.slots x)))
      ⊎ (((act.body == home_of program x) ≡ false) × ((m' : ℕ) × (act.maker ≡ Some m') × outer m'))

  -- where a variable lives, by a look-up of at most so many steps
  abbrev pub Resolves : List Activation → ℕ → ℕ → ℕ → Location → Type 0
  Resolves acts zero x m w = ⊥
  Resolves acts (suc f) x m w =
      (act : Activation) × (slice_get acts m ≡ Some act) × ResolvesAt act x m w (λ m'. Resolves acts f x m' w)

  -- of two variables that are seen from one activation, one that is changed lies apart from the other
  abbrev pub Parted : (ℕ → Bool → ℕ → Type 0) → List Activation → Type 0
  Parted sees acts =
      (m x x' : ℕ) (c' : Bool) (f f' : ℕ) (w w' : Location) → sees x true m → sees x' c' m → (x ≡ x' → ⊥)
      → Resolves acts f x m w → Resolves acts f' x' m w' → Apart w w'

  -- all that an activation knows of the closures that it holds, or is the body of
  pub record Around (shared : Grant) (me : ℕ) (shape : Activation) (st : State) : Type 0 where
    pub holding : Holding shared me shape st
    pub lower : (x : ℕ) (c : Bool) (m f : ℕ) (w : Location) → shared.sees x c m
        → Resolves (links (take me st.store)) f x m w → w.activation < me
    pub clear : (y : ℕ) (l : Location) → shape.slots y ≡ refers l → reach.borrowed y ≡ false
        → (x : ℕ) (c : Bool) (m f : ℕ) (w : Location) → shared.sees x c m → Resolves (links (take me st.store)) f x m w
        → Apart l w
    pub parted : Parted shared.sees (links (take me st.store))
