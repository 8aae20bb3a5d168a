-- Value trees with holes, and what stands where in one.
use Rattle.std.specs.Prelude.{ℕ, zero, suc, ℤ, Bool, true, false, ◌&&◌, ◌==◌, List, [], ◌∷◌, Option, Some, None, if◌then◌else◌}
use Rattle.own_shapes.specs.Types.{TypeHead, Shape, Shapes, no_shapes}
use Rattle.own_shapes.specs.Types as shape

-- A tracked value has its number, from 1 in order of birth; a struct that is not tracked has none, nor has `self` in
-- an `init`. A hole is where a value is not yet or no more.
mutual
  pub data Val : Type 0 where
    int : ℤ → Val
    bool : Bool → Val
    -- what a body without a result gives
    unit : Val
    struct : (type : ℕ) → (number : Option ℕ) → Vals → Val
    -- an enum's present case with its payloads
    variant : (present : ℕ) → Vals → Val
    hole : Val

  pub data Vals : Type 0 where
    no_vals : Vals
    val : Val → Vals → Vals

-- no hole in it
abbrev mutual
  pub is_whole : Val → Bool
  is_whole (int n) = true
  is_whole (bool b) = true
  is_whole unit = true
  is_whole (struct type number vs) = all_whole vs
  is_whole (variant present vs) = all_whole vs
  is_whole hole = false

  pub all_whole : Vals → Bool
  all_whole no_vals = true
  all_whole (val v vs) = is_whole v && all_whole vs

-- What is left of a value that is moved or destroyed: a hole. One at a struct that has stored properties and no
-- `deinit` is a hole in each of these.
abbrev mutual
  pub emptied : Val → Val
  emptied (int n) = hole
  emptied (bool b) = hole
  emptied unit = hole
  emptied (struct type None no_vals) = hole
  emptied (struct type None (val v vs)) = struct type None (val (emptied v) (all_emptied vs))
  emptied (struct type (Some number) vs) = hole
  emptied (variant present vs) = hole
  emptied hole = hole

  pub all_emptied : Vals → Vals
  all_emptied no_vals = no_vals
  all_emptied (val v vs) = val (emptied v) (all_emptied vs)

-- what a binding without a value holds
abbrev mutual
  pub vacant : Shape → Val
  vacant shape.number = hole
  vacant shape.truth = hole
  vacant shape.no_value = hole
  vacant shape.closure = hole
  vacant (shape.struct head fields) = vacant_struct head.has_deinit head.number fields
  vacant (shape.enum head cases) = hole

  pub vacant_struct : Bool → ℕ → Shapes → Val
  vacant_struct true type fields = hole
  vacant_struct false type no_shapes = hole
  vacant_struct false type (shape.shape s ss) = struct type None (val (vacant s) (all_vacant ss))

  pub all_vacant : Shapes → Vals
  all_vacant no_shapes = no_vals
  all_vacant (shape.shape s ss) = val (vacant s) (all_vacant ss)

-- `self` at the entry of an `init`, which is opened whatever its type
abbrev pub opened : Shape → Val
opened shape.number = hole
opened shape.truth = hole
opened shape.no_value = hole
opened shape.closure = hole
opened (shape.struct head fields) = struct head.number None (all_vacant fields)
opened (shape.enum head cases) = hole

-- ---- parts of a value

-- one step into a value: a stored property, or a payload of a case
pub data Part : Type 0 where
  field : ℕ → Part
  payload : (present : ℕ) → ℕ → Part

-- What is looked for in a value: it is there; it lies below a hole, or in a case that is not present, which is where
-- no value is; or no value of this type has such a part.
pub data Found (A : Type 0) : Type 0 where
  found : A → Found A
  hollow : Found A
  nowhere : Found A

abbrev pub and_then : {A B : Type 0} → Found A → (A → Found B) → Found B
and_then (found a) next = next a
and_then hollow next = hollow
and_then nowhere next = nowhere

abbrev pub nth : Vals → ℕ → Found Val
nth no_vals k = nowhere
nth (val v vs) zero = found v
nth (val v vs) (suc k) = nth vs k

abbrev pub with_nth : Vals → ℕ → Val → Found Vals
with_nth no_vals k new = nowhere
with_nth (val v vs) zero new = found (val new vs)
with_nth (val v vs) (suc k) new = and_then (with_nth vs k new) (λ rest. found (val v rest))

abbrev pub child : Val → Part → Found Val
child (struct type number vs) (field k) = nth vs k
child (struct type number vs) (payload c k) = nowhere
child (variant present vs) (field k) = nowhere
child (variant present vs) (payload c k) = if present == c then nth vs k else hollow
child hole part = hollow
child (int n) part = nowhere
child (bool b) part = nowhere
child unit part = nowhere

abbrev pub with_child : Val → Part → Val → Found Val
with_child (struct type number vs) (field k) new = and_then (with_nth vs k new) (λ all. found (struct type number all))
with_child (struct type number vs) (payload c k) new = nowhere
with_child (variant present vs) (field k) new = nowhere
with_child (variant present vs) (payload c k) new =
    if present == c then and_then (with_nth vs k new) (λ all. found (variant present all)) else hollow
with_child hole part new = hollow
with_child (int n) part new = nowhere
with_child (bool b) part new = nowhere
with_child unit part new = nowhere

-- what stands at the end of a way into a value
abbrev pub value_at : List Part → Val → Found Val
value_at [] v = found v
value_at (part ∷ parts) v = and_then (child v part) (value_at parts)

-- the value with another one there
abbrev pub with_value_at : List Part → Val → Val → Found Val
with_value_at [] new old = found new
with_value_at (part ∷ parts) new old =
    and_then (child old part) (λ inner. and_then (with_value_at parts new inner) (λ changed. with_child old part changed))
