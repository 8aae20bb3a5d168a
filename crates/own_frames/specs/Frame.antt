-- What a run is granted to change beyond its own activation, and the law that nothing else changes.
use Rattle.std.specs.Prelude.{ℕ, ◌<◌, ◌≡◌, ◌≢◌, ◌⊎◌, Bool, true, false, ◌==◌, List, [], ◌∷◌, Option, Some, None, slice_get, length, map}
use Rattle.own_tree.specs.declared.place.Binding.{Binding}
use Rattle.own_tree.specs.declared.typed.BodyKind.{BodyKind}
use Rattle.own_tree.specs.declared.typed.BodyKind.TheVariants as kind
use Rattle.own_tree.specs.declared.typed.Passing.{Passing}
use Rattle.own_tree.specs.declared.typed.Passing.TheVariants as passing
use Rattle.own_tree.specs.TypedSource.{TBody, Program}
use Rattle.own_runs.specs.Destruction.{Passed, given, lent, lent_temporary, closed, Call}
use Rattle.own_runs.specs.Laws.{AreApart}
use Rattle.own_runs.specs.Store.{Root, binding, temporary, result, Location, Slot, absent, holds, refers, runs, Activation, State, below}
use Rattle.own_runs.specs.Values.{Val, unit, Part, Found, nowhere, value_at}
use Rattle.own_ways.specs.Ways.{Way, gives, traps, stops, errs, strays}

-- ---- what an activation is besides its values: its body, its maker, and what its bindings stand for

abbrev pub link : Slot → Slot
link absent = absent
link (holds v) = holds unit
link (refers l) = refers l
link (runs k m) = runs k m

abbrev pub bare : Activation → Activation
bare act = record {
  body = act.body;
  maker = act.maker;
  slots = λ x. link (act.slots x);
  temporaries = λ node. unit;
  result = unit;
}

abbrev pub links : List Activation → List Activation
links acts = map bare acts

-- ---- what is seen at a place: nothing where a binding holds no value of its own

abbrev pub slot_seen : List Part → Slot → Found Val
slot_seen parts absent = nowhere
slot_seen parts (holds v) = value_at parts v
slot_seen parts (refers l) = nowhere
slot_seen parts (runs k m) = nowhere

abbrev pub root_seen : Root → List Part → Activation → Found Val
root_seen (binding x) parts act = slot_seen parts (act.slots x)
root_seen (temporary n) parts act = value_at parts (act.temporaries n)
root_seen result parts act = value_at parts act.result

abbrev pub seen_at : Location → Option Activation → Found Val
seen_at l None = nowhere
seen_at l (Some act) = root_seen l.root l.parts act

abbrev pub seen : List Activation → Location → Found Val
seen acts l = seen_at l (slice_get acts l.activation)

-- two places that share nothing: of two activations, of two value trees, or of two parts of one
abbrev pub Apart : Location → Location → Type 0
Apart k l = (k.activation ≢ l.activation) ⊎ ((k.root ≢ l.root) ⊎ AreApart k.parts l.parts)

-- ---- what a run is granted

-- Places that may be changed, with all that lies below them, and variables that may be looked up: from which activation
-- outwards, and whether to be changed.
pub record Grant : Type 1 where
  pub may : Location → Type 0
  pub downward : (l : Location) (ks : List Part) → may l → may (below l ks)
  pub sees : (variable : ℕ) → (change : Bool) → (activation : ℕ) → Type 0

-- The law: no activation comes or goes, each keeps what it is besides its values, and a place that lies apart from the
-- grant is seen as before.
pub record Framed (grant : Grant) (old new : State) : Type 0 where
  pub many : length new.store ≡ length old.store
  pub linked : links new.store ≡ links old.store
  pub apart : (l : Location) → l.activation < length old.store → ((w : Location) → grant.may w → Apart w l)
      → seen new.store l ≡ seen old.store l

-- A step that comes back with a value does so as P says. One that traps, stops, errs or strays leaves nothing to see.
abbrev pub Ok : {A : Type 0} → (A → State → Type 0) → Way State A → Type 0
Ok P (gives a s) = P a s
Ok P (traps code at s) = Unit {0}
Ok P (stops s) = Unit {0}
Ok P (errs s) = Unit {0}
Ok P (strays s) = Unit {0}

-- a read-only loan
abbrev pub lends : Passing → Bool
lends passing.Borrow = true
lends passing.ByValue = false
lends passing.Inout = false
lends passing.Consume = false
lends passing.Closure = false

abbrev pub is_closure : Passing → Bool
is_closure passing.Closure = true
is_closure passing.Borrow = false
is_closure passing.ByValue = false
is_closure passing.Inout = false
is_closure passing.Consume = false

abbrev pub home_in : Option Binding → ℕ
home_in None = 0
home_in (Some b) = b.body

-- the body that declares a binding (0 where there is none)
abbrev pub home_of : Program → ℕ → ℕ
home_of program x = home_in (slice_get program.bindings x)

abbrev pub at_root : ℕ → ℕ → Location
at_root a x = record { activation = a; root = binding x; parts = [] }

-- What is read off a typed program besides its tree: the captured bindings of a body, by change or by any use; the
-- bindings through which nothing may be changed; and how a parameter of function type has its arguments passed.
pub record Reach : Type 1 where
  pub captured : (body variable : ℕ) → (change : Bool) → Type 0
  pub borrowed : ℕ → Bool
  pub formals : ℕ → List Passing

-- the parameters that arguments are bound to: `self` of an `init` is none of them
abbrev pub after_self : List ℕ → List ℕ
after_self [] = []
after_self (x ∷ xs) = xs

abbrev pub entry_params : BodyKind → List ℕ → List ℕ
entry_params kind.Initializer xs = after_self xs
entry_params kind.Function xs = xs
entry_params kind.Method xs = xs
entry_params kind.Deinitializer xs = xs
entry_params (kind.Closure outer) xs = xs

module _ (program : Program) (reach : Reach) where
  -- a body's parameters for arguments that are passed so, none of them a closure
  abbrev pub Suits : List ℕ → List Passing → Type 0
  Suits [] [] = Unit {0}
  Suits [] (q ∷ qs) = Unit {0}
  Suits (x ∷ xs) [] = Unit {0}
  Suits (x ∷ xs) (q ∷ qs) = ((reach.borrowed x ≡ false → lends q ≡ false) × (is_closure q ≡ false)) × Suits xs qs

  abbrev pub Takes : ℕ → List Passing → Type 0
  Takes k qs = (b : TBody) → slice_get program.bodies k ≡ Some b → Suits (entry_params b.kind b.params) qs

  -- a closure of body k that activation m made may be called: what it captures may be looked up from there
  abbrev pub Calls : Grant → ℕ → ℕ → Type 0
  Calls grant k m = (x : ℕ) (c : Bool) → reach.captured k x c → grant.sees x c m

  -- what a look-up comes to: to change a variable its home must be granted, and a closure that it stands for may be
  -- called
  abbrev pub Granted : Grant → Bool → ℕ → ℕ → Slot → Type 0
  Granted grant c a x absent = c ≡ true → grant.may (at_root a x)
  Granted grant c a x (holds v) = c ≡ true → grant.may (at_root a x)
  Granted grant c a x (refers l) = c ≡ true → grant.may l
  Granted grant c a x (runs k m) = (c ≡ true → grant.may (at_root a x)) × Calls grant k m × Takes k (reach.formals x)

  -- one step of a look-up: the variable is declared here, or it is looked up from the maker
  pub record Leads (grant : Grant) (acts : List Activation) (x : ℕ) (c : Bool) (m : ℕ) : Type 0 where
    pub act : Activation
    pub found : slice_get acts m ≡ Some act
    pub here : (act.body == home_of program x) ≡ true → Granted grant c m x (act.slots x)
    pub outer : (act.body == home_of program x) ≡ false → (m' : ℕ) × (act.maker ≡ Some m') × grant.sees x c m'

  -- each look-up that is granted leads on, to a place that is granted
  abbrev pub Closed : Grant → List Activation → Type 0
  Closed grant acts = (x : ℕ) (c : Bool) (m : ℕ) → grant.sees x c m → Leads grant acts x c m

  -- What is passed is within the grant: a place that is given, for the value moves out of it; one that is lent, unless
  -- the parameter only reads it; and a closure that may be called.
  abbrev pub PassedFits : Grant → ℕ → Passed → Type 0
  PassedFits grant x (given l) = grant.may l
  PassedFits grant x (lent l) = reach.borrowed x ≡ false → grant.may l
  PassedFits grant x (lent_temporary s l) = reach.borrowed x ≡ false → grant.may l
  PassedFits grant x (closed k m) = Calls grant k m × Takes k (reach.formals x)

  abbrev pub AllFit : Grant → List ℕ → List Passed → Type 0
  AllFit grant [] [] = Unit {0}
  AllFit grant [] (p ∷ ps) = Unit {0}
  AllFit grant (x ∷ xs) [] = Unit {0}
  AllFit grant (x ∷ xs) (p ∷ ps) = PassedFits grant x p × AllFit grant xs ps

  -- a body that captures anything has a maker from which that may be looked up
  abbrev pub MakerFits : Grant → ℕ → Option ℕ → Type 0
  MakerFits grant k None = (x : ℕ) (c : Bool) → reach.captured k x c → ⊥
  MakerFits grant k (Some m) = Calls grant k m

  -- a call that stays within the grant
  pub record Admits (grant : Grant) (k : ℕ) (m : Option ℕ) (ps : List Passed) (acts : List Activation) : Type 0 where
    pub closed : Closed grant (links acts)
    pub passed : (b : TBody) → slice_get program.bodies k ≡ Some b → AllFit grant (entry_params b.kind b.params) ps
    pub maker : MakerFits grant k m

  -- each call that stays within a grant is framed by it
  abbrev pub CallsFrame : Call → Type 1
  CallsFrame run =
      (grant : Grant) (k : ℕ) (m : Option ℕ) (ps : List Passed) (level : ℕ) (st : State) → Admits grant k m ps st.store
      → Ok (λ v st'. Framed grant st st') (run k m ps level st)
