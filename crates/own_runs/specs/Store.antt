-- The store of a run, and the steps that look at it and change it.
use Rattle.std.specs.Prelude.{ℕ, zero, suc, ◌+◌, ◌-◌, ℤ, pos, ◌==◌, nat_le, List, [], ◌∷◌, ◌++◌, length, take, slice_get, slice_set, Option, Some, if◌then◌else◌}
use Rattle.own_tree.specs.declared.limits.TheConstants.{MOST_LEVELS}
use Rattle.own_tree.specs.declared.typed.At.{At}
use Rattle.own_runs.specs.Events.{Event, made, Item, happened}
use Rattle.own_runs.specs.Values.{Val, int, struct, Vals, is_whole, emptied, Part, Found, found, hollow, nowhere, value_at, with_value_at}
use Rattle.own_ways.specs.declared.traps.TheConstants.{TOO_MANY_LEVELS}
use Rattle.own_ways.specs.Ways.{Step, ◌>>=◌, ◌>>◌, pure, trap, stop, err, stray, look, change, pick, or_stray}

-- ---- the store

-- where a value tree hangs in an activation: at a binding; at the node of an expression, where its value waits while
-- something else is evaluated or destroyed; or where the result of the body waits
pub data Root : Type 0 where
  binding : ℕ → Root
  temporary : (node : ℕ) → Root
  result : Root

-- a place of the store: an activation, counted from the first, and a way into one of its value trees
pub record Location : Type 0 where
  pub activation : ℕ
  pub root : Root
  pub parts : List Part

-- What a binding stands for: nothing before it is made; a value of its own; a place, where it is borrowed or `inout`;
-- or a closure, which is a body and the activation that made it.
pub data Slot : Type 0 where
  absent : Slot
  holds : Val → Slot
  refers : Location → Slot
  runs : (body maker : ℕ) → Slot

-- a call that has not returned
pub record Activation : Type 0 where
  pub body : ℕ
  -- of a closure's body the activation that made the closure
  pub maker : Option ℕ
  pub slots : ℕ → Slot
  pub temporaries : ℕ → Val
  pub result : Val

pub record State : Type 0 where
  -- the first call first
  pub store : List Activation
  pub turns : ℕ
  pub births : ℕ
  pub input : List ℤ
  pub log : List Item

abbrev pub Act : Type 0 → Type 0
Act A = Step State A

abbrev pub or_found : {A : Type 0} → Found A → Act A
or_found (found a) = pure a
or_found hollow = err
or_found nowhere = stray

-- ---- activations

abbrev pub activation : ℕ → Act Activation
activation a = look (λ s. slice_get s.store a) >>= or_stray

abbrev pub set_activation : ℕ → Activation → Act (Unit {0})
set_activation a new = change (λ s. record s { store = slice_set s.store a new })

-- a function that differs at one number
abbrev pub with_at : {A : Type 0} → ℕ → A → (ℕ → A) → ℕ → A
with_at x new old y = if x == y then new else old y

abbrev pub slot_at : ℕ → ℕ → Act Slot
slot_at a x = activation a >>= λ act. pure (act.slots x)

abbrev pub set_slot : ℕ → ℕ → Slot → Act (Unit {0})
set_slot a x new = activation a >>= λ act. set_activation a (record act { slots = with_at x new act.slots })

-- begins a call, and gives the number of its activation
abbrev pub begin : Activation → Act ℕ
begin new = look (λ s. length s.store) >>= λ me. change (λ s. record s { store = s.store ++ new ∷ [] }) >> pure me

-- ends the last one that began
abbrev pub finish : Act (Unit {0})
finish = change (λ s. record s { store = take (length s.store - 1) s.store })

-- ---- places

abbrev pub own_value : Slot → Act Val
own_value absent = stray
own_value (holds v) = pure v
own_value (refers l) = stray
own_value (runs body maker) = stray

abbrev pub root_value : Root → Activation → Act Val
root_value (binding x) act = own_value (act.slots x)
root_value (temporary node) act = pure (act.temporaries node)
root_value result act = pure act.result

abbrev pub with_root : Root → Val → Activation → Activation
with_root (binding x) new act = record act { slots = with_at x (holds new) act.slots }
with_root (temporary node) new act = record act { temporaries = with_at node new act.temporaries }
with_root result new act = record act { result = new }

-- what stands at a place, with the holes in it
abbrev pub peek : Location → Act Val
peek l = activation l.activation >>= root_value l.root >>= λ v. or_found (value_at l.parts v)

-- writes there. Below a hole that is wrong.
abbrev pub put : Location → Val → Act (Unit {0})
put l new = do
  act ← activation l.activation
  old ← root_value l.root act
  changed ← or_found (with_value_at l.parts new old)
  set_activation l.activation (with_root l.root changed act)

-- a value without holes. To read a hole is wrong.
abbrev pub read : Location → Act Val
read l = peek l >>= λ v. pick (is_whole v) (pure v) err

abbrev pub vacate : Location → Act (Unit {0})
vacate l = peek l >>= λ v. put l (emptied v)

-- a move leaves a hole
abbrev pub move : Location → Act Val
move l = read l >>= λ v. vacate l >> pure v

abbrev pub root_at : ℕ → Root → Location
root_at a root = record { activation = a; root = root; parts = [] }

abbrev pub below : Location → List Part → Location
below l more = record { activation = l.activation; root = l.root; parts = l.parts ++ more }

-- a value waits at the node of its expression
abbrev pub hold : ℕ → At → Val → Act Location
hold a at v = put (root_at a (temporary at.id)) v >> pure (root_at a (temporary at.id))

-- ---- turns, levels, births, input and log

abbrev pub turn_of : ℕ → Act (Unit {0})
turn_of zero = stop
turn_of (suc left) = change (λ s. record s { turns = left })

abbrev pub take_turn : Act (Unit {0})
take_turn = λ s. turn_of s.turns s

abbrev pub take_level : ℕ → Act (Unit {0})
take_level level = pick (nat_le level MOST_LEVELS) (pure tt) (trap TOO_MANY_LEVELS 0)

abbrev pub log_item : Item → Act (Unit {0})
log_item item = change (λ s. record s { log = s.log ++ item ∷ [] })

abbrev pub note : Event → Act (Unit {0})
note event = log_item (happened event)

-- the birth of a tracked value
abbrev pub born : (type : ℕ) → Vals → Act Val
born type fields = do
  number ← look (λ s. s.births + 1)
  change (λ s. record s { births = number })
  note (made type number)
  pure (struct type (Some number) fields)

abbrev pub first_or_zero : List ℤ → ℤ
first_or_zero [] = pos 0
first_or_zero (n ∷ rest) = n

abbrev pub after_first : List ℤ → List ℤ
after_first [] = []
after_first (n ∷ rest) = rest

-- the next number of the input, and 0 past its end
abbrev pub read_input : Act Val
read_input = look (λ s. first_or_zero s.input) >>= λ n. change (λ s. record s { input = after_first s.input }) >> pure (int n)
