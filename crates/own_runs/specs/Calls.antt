-- What a name stands for in a run, and what is passed to a call.
use Rattle.std.specs.Prelude.{ℕ, zero, suc, Bool, true, false, ◌==◌, List, [], ◌∷◌, ◌++◌, map, slice_get, Option, Some, None, codes}
use Rattle.std.specs.Fmt.{signed_decimal}
use Rattle.own_tree.specs.declared.place.Binding.{Binding}
use Rattle.own_tree.specs.declared.place.Place.{Place}
use Rattle.own_tree.specs.declared.place.Ty.TheVariants as type
use Rattle.own_tree.specs.declared.typed.At.{At}
use Rattle.own_tree.specs.declared.typed.Passing.{Passing}
use Rattle.own_tree.specs.declared.typed.Passing.TheVariants as passing
use Rattle.own_tree.specs.declared.typed.Target.{Target}
use Rattle.own_tree.specs.declared.typed.Target.TheVariants as target
use Rattle.own_tree.specs.declared.typed.TypedPath.{TypedPath}
use Rattle.own_tree.specs.TypedSource.{TExp, text, parenthesized, address, closure, function, Program}
use Rattle.own_shapes.specs.Types.{Types, Shape, is_copyable, tracked}
use Rattle.own_paths.specs.Within.{node_of, path_of}
use Rattle.own_runs.specs.Destruction.{Passed, given, lent, lent_temporary, closed, Call, end_value}
use Rattle.own_runs.specs.Events.{used}
use Rattle.own_runs.specs.Store.{binding, Location, Slot, absent, holds, refers, runs, Act, activation, with_at, slot_at, read, move, below, hold, note, born, read_input}
use Rattle.own_runs.specs.Values.{Val, int, bool, unit, struct, variant, hole, Vals, no_vals, val, field}
use Rattle.own_ways.specs.Ways.{◌>>=◌, ◌>>◌, pure, stray, pick, or_stray}

-- ---- what is passed

-- A value that is given moves into the callee's binding. What is lent is the same place there.
abbrev pub slot_of : Passed → Act Slot
slot_of (given l) = move l >>= λ v. pure (holds v)
slot_of (lent l) = pure (refers l)
slot_of (lent_temporary s l) = pure (refers l)
slot_of (closed body maker) = pure (runs body maker)

-- the bindings of the parameters
abbrev pub slots_of : List ℕ → List Passed → Act (ℕ → Slot)
slots_of [] [] = pure (λ x. absent)
slots_of (x ∷ xs) (p ∷ ps) = slot_of p >>= λ s. slots_of xs ps >>= λ rest. pure (with_at x s rest)
slots_of [] (p ∷ ps) = stray
slots_of (x ∷ xs) [] = stray

abbrev pub value_given : Passed → Act Val
value_given (given l) = move l
value_given (lent l) = stray
value_given (lent_temporary s l) = stray
value_given (closed body maker) = stray

-- the parts of a construction
abbrev pub values_given : List Passed → Act Vals
values_given [] = pure no_vals
values_given (p ∷ ps) = value_given p >>= λ v. values_given ps >>= λ vs. pure (val v vs)

-- ---- `print`

abbrev pub spelled_truth : Bool → List ℕ
spelled_truth true = codes "true"
spelled_truth false = codes "false"

abbrev pub spelled : Val → Act (List ℕ)
spelled (int n) = pure (signed_decimal n)
spelled (bool b) = pure (spelled_truth b)
spelled unit = stray
spelled (struct type number vs) = stray
spelled (variant present vs) = stray
spelled hole = stray

-- a text, which stands only in a `print`, also in parentheses
abbrev pub text_of : TExp → Option (List ℕ)
text_of (text at bytes) = Some bytes
text_of (parenthesized at e) = text_of e
text_of e = None

-- an item is a text or a value
abbrev pub item_bytes : Option (List ℕ) → Act Val → Act (List ℕ)
item_bytes (Some bytes) value = pure bytes
item_bytes None value = value >>= spelled

-- one space between two items
abbrev pub spaced : List (List ℕ) → List ℕ
spaced [] = []
spaced (item ∷ []) = item
spaced (item ∷ next ∷ items) = item ++ 32 ∷ spaced (next ∷ items)

-- ---- what is lent

-- The event of a tracked value that is lent (SE-0377).
abbrev pub note_use : Val → Act (Unit {0})
note_use (struct type (Some number) vs) = note (used type number)
note_use (struct type None vs) = pure tt
note_use (variant present vs) = pure tt
note_use (int n) = pure tt
note_use (bool b) = pure tt
note_use unit = pure tt
note_use hole = pure tt

-- To lend a hole is wrong.
abbrev pub lend : Passed → Act (Unit {0})
lend (lent l) = read l >>= note_use
lend (lent_temporary s l) = read l >>= note_use
lend (given l) = pure tt
lend (closed body maker) = pure tt

-- in order of the arguments, after all of them were evaluated
abbrev pub lend_all : List Passed → Act (Unit {0})
lend_all [] = pure tt
lend_all (p ∷ ps) = lend p >> lend_all ps

-- ---- constructions

-- The birth of a tracked value is its memberwise construction (SE-0390).
abbrev pub construct : Bool → ℕ → Vals → Act Val
construct true type fields = born type fields
construct false type fields = pure (struct type None fields)

-- the node at which a value waits: parentheses have none of their own
abbrev pub holder : TExp → At
holder (parenthesized at e) = holder e
holder e = node_of e

module _ (types : Types) (program : Program) (run : Call) (me level : ℕ) where
  -- ---- names

  abbrev pub binding_at : ℕ → Act Binding
  binding_at x = or_stray (slice_get program.bindings x)

  abbrev pub shape_of_binding : ℕ → Act Shape
  shape_of_binding x = binding_at x >>= λ b. pure (types.shape b.ty)

  -- The activation of the body that declares a binding: this one, or the one that made the closure that runs in it,
  -- and so on. Makers are older, so that there are no more than there are activations.
  abbrev pub declarer : ℕ → (body a : ℕ) → Act ℕ
  declarer zero body a = stray
  declarer (suc older) body a =
      activation a >>= λ act. pick (act.body == body) (pure a) (or_stray act.maker >>= λ maker. declarer older body maker)

  abbrev pub owner_of : ℕ → Act ℕ
  owner_of x = binding_at x >>= λ b. declarer (suc me) b.body me

  -- A binding that refers to a place stands for it.
  abbrev pub through : Slot → ℕ → Place → Act Location
  through (holds v) a p = pure (record { activation = a; root = binding p.binding; parts = map field p.fields })
  through (refers l) a p = pure (below l (map field p.fields))
  through absent a p = stray
  through (runs body maker) a p = stray

  abbrev pub locate : Place → Act Location
  locate p = owner_of p.binding >>= λ a. slot_at a p.binding >>= λ s. through s a p

  -- a copyable path is copied, and one that is not moves (SE-0390)
  abbrev pub take_value : TypedPath → Act Val
  take_value p = locate p.place >>= λ l. pick (is_copyable types p.at.ty) (read l) (move l)

  abbrev pub closure_in : Slot → Act Passed
  closure_in (runs body maker) = pure (closed body maker)
  closure_in absent = stray
  closure_in (holds v) = stray
  closure_in (refers l) = stray

  -- a parameter of function type
  abbrev pub closure_of : ℕ → Act Passed
  closure_of x = owner_of x >>= λ a. slot_at a x >>= closure_in

  -- ---- how an argument is passed

  abbrev pub give : TExp → Act Val → Act Passed
  give e value = value >>= hold me (holder e) >>= λ l. pure (given l)

  abbrev pub lend_place : TypedPath → Act Passed
  lend_place p = locate p.place >>= λ l. pure (lent l)

  -- What is no place is a temporary for the call.
  abbrev pub pass_borrowed : Option TypedPath → TExp → Act Val → Act Passed
  pass_borrowed (Some p) e value = lend_place p
  pass_borrowed None e value = value >>= hold me (holder e) >>= λ l. pure (lent_temporary (types.shape (node_of e).ty) l)

  -- the receiver of a mutating method is a path without `&`
  abbrev pub pass_receiver : Option TypedPath → Act Passed
  pass_receiver (Some p) = lend_place p
  pass_receiver None = stray

  abbrev pub pass_inout : TExp → Act Passed
  pass_inout (address p) = lend_place p
  pass_inout e = pass_receiver (path_of e)

  -- A literal is passed with this activation, and the name of a parameter also in parentheses.
  abbrev pub pass_closure : TExp → Act Passed
  pass_closure (closure at body) = pure (closed body me)
  pass_closure (function at x) = closure_of x
  pass_closure (parenthesized at e) = pass_closure e
  pass_closure e = stray

  abbrev pub pass : Passing → TExp → Act Val → Act Passed
  pass passing.ByValue e value = give e value
  pass passing.Consume e value = give e value
  pass passing.Borrow e value = pass_borrowed (path_of e) e value
  pass passing.Inout e value = pass_inout e
  pass passing.Closure e value = pass_closure e

  -- ---- what is called

  abbrev pub call_closure : Passed → List Passed → Act Val
  call_closure (closed body maker) ps = run body (Some maker) ps level
  call_closure (given l) ps = stray
  call_closure (lent l) ps = stray
  call_closure (lent_temporary s l) ps = stray

  abbrev pub apply : Target → List Passed → Act Val
  apply (target.Function body) ps = run body None ps level
  apply (target.Method body) ps = run body None ps level
  apply (target.Init body) ps = run body None ps level
  apply (target.Memberwise t) ps = values_given ps >>= construct (tracked (types.shape (type.Named t))) t
  apply (target.Case t present) ps = values_given ps >>= λ vs. pure (variant present vs)
  apply (target.Closure x) ps = closure_of x >>= λ c. call_closure c ps
  -- its items are no arguments
  apply target.Print ps = stray
  apply target.ReadInt [] = read_input
  apply target.ReadInt (p ∷ ps) = stray

  -- temporaries that were lent, the last one first, once the call has returned
  abbrev pub end_lent : List Passed → Act (Unit {0})
  end_lent [] = pure tt
  end_lent (lent_temporary s l ∷ ps) = end_lent ps >> end_value program run s l level
  end_lent (given l ∷ ps) = end_lent ps
  end_lent (lent l ∷ ps) = end_lent ps
  end_lent (closed body maker ∷ ps) = end_lent ps
