-- The limits of the bodies of a text, M9 to M13: what is counted in each.
use Rattle.std.specs.Prelude.{ℕ, suc, ◌+◌, ◌*◌, Bool, true, false, not, ◌&&◌, ◌==◌, if◌then◌else◌, List, [], ◌∷◌, length, nat_lt, Option, Some, None}
use Rattle.own_tree.specs.declared.limits.TheConstants.{MOST_BODY_SLOTS, MOST_BODY_OPS, MOST_BODY_LEAVES, MOST_BODY_MAKERS, MOST_OPS}
use Rattle.own_tree.specs.declared.op.Op.{Op}
use Rattle.own_tree.specs.declared.op.OpKind.{OpKind}
use Rattle.own_tree.specs.declared.op.OpKind.TheVariants as kind
use Rattle.own_tree.specs.declared.place.Binding.{Binding}
use Rattle.own_tree.specs.declared.place.Mode.{Mode}
use Rattle.own_tree.specs.declared.place.Mode.TheVariants as mode
use Rattle.own_tree.specs.declared.place.Place.{Place}
use Rattle.own_tree.specs.declared.place.Ty.{Ty}
use Rattle.own_tree.specs.declared.span.Span.{Span}
use Rattle.own_tree.specs.declared.typed.Passing.{Passing}
use Rattle.own_tree.specs.declared.typed.Passing.TheVariants as passing
use Rattle.own_tree.specs.declared.typed.Target.{Target}
use Rattle.own_tree.specs.declared.typed.Target.TheVariants as target
use Rattle.own_tree.specs.OpSource.{Ops, op, nothing, next, either, loop, catch, scope, break_at, continue_at, return_at, halt}
use Rattle.own_tree.specs.TypedSource.{TExp, number, text, truth, path, parenthesized, consumed, negated, inverted, arithmetic, wrapping, compared, logic, choice, member, call, address, closure, function, TExps, no_exps, exp, TStm, let_in, declare, ignore, assign, update, discard_self, if_then, if_else, else_if, loop_while, loop_repeat, loop_for, switch, leave, go_on, return_none, return_value, evaluate, TBody, Program}
use Rattle.own_paths.specs.Captures.{captures, first_passing, other_passings}
use Rattle.own_shapes.specs.declared.counted.Counted.{Counted}
use Rattle.own_shapes.specs.Counts.{counted, first_over}
use Rattle.own_paths.specs.Makers.{BodyUses, tree_of, uses_of}
use Rattle.own_paths.specs.Ops.{body_ops}
use Rattle.own_shapes.specs.Places.{whole, covers}
use Rattle.own_shapes.specs.Types.{is_copyable, Types, slots}
use Rattle.own_paths.specs.Within.{node_of, exps_in_block, stms_in_block}

-- ---- M9: the slots of a body

-- Of a binding: those of its type where the body owns it, one address where it is borrowed or `inout`, and two
-- words for a parameter of function type.
abbrev pub binding_slots : Mode → ℕ → ℕ
binding_slots mode.Let own = own
binding_slots mode.Var own = own
binding_slots mode.Plain own = own
binding_slots mode.Borrowing own = 1
binding_slots mode.Consuming own = own
binding_slots mode.Inout own = 1
binding_slots mode.Turn own = own
binding_slots mode.PatternOwned own = own
binding_slots mode.PatternBorrowed own = 1
binding_slots mode.SelfBorrowing own = 1
binding_slots mode.SelfConsuming own = own
binding_slots mode.SelfMutating own = 1
binding_slots mode.SelfInit own = own
binding_slots mode.SelfDeinit own = 1
binding_slots mode.Closure own = 2

abbrev pub is_kept : Passing → Bool
is_kept passing.ByValue = true
is_kept passing.Consume = true
is_kept passing.Borrow = false
is_kept passing.Inout = false
is_kept passing.Closure = false

module _ (types : Types) (program : Program) where
  abbrev pub ty_slots : Ty → ℕ
  ty_slots ty = slots (types.shape ty)

  abbrev pub bindings_slots : ℕ → List Binding → ℕ
  bindings_slots k [] = 0
  bindings_slots k (b ∷ bindings) =
      if b.body == k then binding_slots b.mode (ty_slots b.ty) + bindings_slots k bindings
      else bindings_slots k bindings

  -- the arguments that wait for later ones, which are all that are passed by value or consumed but the last
  abbrev pub waiting_slots : TExps → List Passing → ℕ
  waiting_slots no_exps ps = 0
  waiting_slots (exp e no_exps) ps = 0
  waiting_slots (exp e (exp f es)) ps =
      if is_kept (first_passing ps) then ty_slots (node_of e).ty + waiting_slots (exp f es) (other_passings ps)
      else waiting_slots (exp f es) (other_passings ps)

  -- The items of `print` are written one by one.
  abbrev pub arguments_slots : Target → TExps → List Passing → ℕ
  arguments_slots target.Print es ps = 0
  arguments_slots (target.Function k) es ps = waiting_slots es ps
  arguments_slots (target.Method k) es ps = waiting_slots es ps
  arguments_slots (target.Init k) es ps = waiting_slots es ps
  arguments_slots (target.Memberwise k) es ps = waiting_slots es ps
  arguments_slots (target.Case t k) es ps = waiting_slots es ps
  arguments_slots (target.Closure x) es ps = waiting_slots es ps
  arguments_slots target.ReadInt es ps = waiting_slots es ps

  -- Of an expression by itself: the value of a call, a construction, a `consume` or a `?:`. A call without a result
  -- has the type `Unit`, which has no slot.
  abbrev pub exp_slots : TExp → ℕ
  exp_slots (call at to es ps) = ty_slots at.ty + arguments_slots to es ps
  exp_slots (consumed at p) = ty_slots at.ty
  exp_slots (choice at c a b) = ty_slots at.ty
  exp_slots (closure at k) = 1 + length (captures program k)
  exp_slots (number at n) = 0
  exp_slots (text at t) = 0
  exp_slots (truth at b) = 0
  exp_slots (path p) = 0
  exp_slots (parenthesized at e) = 0
  exp_slots (negated at mark e) = 0
  exp_slots (inverted at e) = 0
  exp_slots (arithmetic at o mark a b) = 0
  exp_slots (wrapping at o a b) = 0
  exp_slots (compared at o a b) = 0
  exp_slots (logic at o a b) = 0
  exp_slots (member at e k) = 0
  exp_slots (address p) = 0
  exp_slots (function at x) = 0

  abbrev pub exps_slots : List TExp → ℕ
  exps_slots [] = 0
  exps_slots (e ∷ es) = exp_slots e + exps_slots es

  -- of a statement by itself: the bound and the turn of a `for`, and the copyable subject of a `switch`
  abbrev pub stm_slots : TStm → ℕ
  stm_slots (loop_for at x low o mark high b) = 2
  stm_slots (switch at e cs) = if is_copyable types (node_of e).ty then ty_slots (node_of e).ty else 0
  stm_slots (let_in at x e) = 0
  stm_slots (declare at x) = 0
  stm_slots (ignore at e) = 0
  stm_slots (assign at p e) = 0
  stm_slots (update at p o mark e) = 0
  stm_slots (discard_self at p) = 0
  stm_slots (if_then at c a) = 0
  stm_slots (if_else at c a b) = 0
  stm_slots (else_if at c a s) = 0
  stm_slots (loop_while at c a) = 0
  stm_slots (loop_repeat at a c) = 0
  stm_slots (leave at) = 0
  stm_slots (go_on at) = 0
  stm_slots (return_none at) = 0
  stm_slots (return_value at e) = 0
  stm_slots (evaluate at e) = 0

  abbrev pub stms_slots : List TStm → ℕ
  stms_slots [] = 0
  stms_slots (s ∷ ss) = stm_slots s + stms_slots ss

  abbrev pub body_slots : ℕ → TBody → ℕ
  body_slots k body = bindings_slots k program.bindings + stms_slots (stms_in_block body.block) + exps_slots (exps_in_block body.block)

-- ---- M10: ops, where an End counts once for each way out of its scope

-- how many jumps of each kind leave a part of an op tree
pub record Leaving : Type 0 where
  pub breaks : ℕ
  pub continues : ℕ
  pub returns : ℕ

abbrev pub none_leave : Leaving
none_leave = record { breaks = 0; continues = 0; returns = 0 }

abbrev pub both_leave : Leaving → Leaving → Leaving
both_leave a b = record { breaks = a.breaks + b.breaks; continues = a.continues + b.continues; returns = a.returns + b.returns }

-- a loop takes up each `break` and `continue` in it, and a `switch` each `break`
abbrev pub leave_loop : Leaving → Leaving
leave_loop a = record { breaks = 0; continues = 0; returns = a.returns }

abbrev pub leave_switch : Leaving → Leaving
leave_switch a = record { breaks = 0; continues = a.continues; returns = a.returns }

abbrev pub leaving : Ops → Leaving
leaving (op o) = none_leave
leaving nothing = none_leave
leaving (next a b) = both_leave (leaving a) (leaving b)
leaving (either a b) = both_leave (leaving a) (leaving b)
leaving (loop a b) = leave_loop (both_leave (leaving a) (leaving b))
leaving (catch a) = leave_switch (leaving a)
leaving (scope xs close a) = leaving a
leaving (break_at s) = record { breaks = 1; continues = 0; returns = 0 }
leaving (continue_at s) = record { breaks = 0; continues = 1; returns = 0 }
leaving (return_at s) = record { breaks = 0; continues = 0; returns = 1 }
leaving halt = none_leave

-- the ways out of a scope: its `}`, and each jump in it that leaves it, by the tree alone
abbrev pub ways_out : Ops → ℕ
ways_out a = let l = leaving a in suc (l.breaks + l.continues + l.returns)

abbrev pub op_count : Ops → ℕ
op_count (op o) = 1
op_count nothing = 0
op_count (next a b) = op_count a + op_count b
op_count (either a b) = op_count a + op_count b
op_count (loop a b) = op_count a + op_count b
op_count (catch a) = op_count a
op_count (scope xs close a) = length xs * ways_out a + op_count a
op_count (break_at s) = 0
op_count (continue_at s) = 0
op_count (return_at s) = 0
op_count halt = 0

-- ---- M12: pairs of an op and a leaf that it makes, ends or declares

abbrev pub is_maker : OpKind → Bool
is_maker kind.Declare = true
is_maker kind.Make = true
is_maker kind.Assign = true
is_maker kind.Consume = true
is_maker kind.Discard = true
is_maker kind.End = true
is_maker kind.Read = false
is_maker kind.Borrow = false
is_maker kind.Inout = false
is_maker kind.Capture = false

-- the leaves at a place or below it
abbrev pub leaves_at : Place → List Place → ℕ
leaves_at p [] = 0
leaves_at p (leaf ∷ ls) = if covers p leaf then suc (leaves_at p ls) else leaves_at p ls

abbrev pub leaves_of_all : List ℕ → List Place → ℕ
leaves_of_all [] ls = 0
leaves_of_all (x ∷ xs) ls = leaves_at (whole x) ls + leaves_of_all xs ls

abbrev pub op_makers : BodyUses → Op → ℕ
op_makers uses o = if is_maker o.kind && not (uses.ends_nothing o) then leaves_at o.place uses.leaves else 0

abbrev pub maker_count : BodyUses → Ops → ℕ
maker_count uses (op o) = op_makers uses o
maker_count uses nothing = 0
maker_count uses (next a b) = maker_count uses a + maker_count uses b
maker_count uses (either a b) = maker_count uses a + maker_count uses b
maker_count uses (loop a b) = maker_count uses a + maker_count uses b
maker_count uses (catch a) = maker_count uses a
maker_count uses (scope xs close a) = leaves_of_all xs uses.leaves * ways_out a + maker_count uses a
maker_count uses (break_at s) = 0
maker_count uses (continue_at s) = 0
maker_count uses (return_at s) = 0
maker_count uses halt = 0

-- ---- the limits

abbrev pub over : ℕ → ℕ → Span → Option Counted
over largest count at = first_over largest (counted count at ∷ [])

-- those of one body
abbrev pub over_M9 : Types → Program → ℕ → TBody → Option Counted
over_M9 types program k body = over MOST_BODY_SLOTS (body_slots types program k body) body.span

abbrev pub over_M10 : Types → Program → ℕ → TBody → Option Counted
over_M10 types program k body = over MOST_BODY_OPS (op_count (body_ops types program body)) body.span

abbrev pub over_M11 : Types → Program → ℕ → TBody → Option Counted
over_M11 types program k body = over MOST_BODY_LEAVES (length (uses_of types program k body).leaves) body.span

abbrev pub over_M12 : Types → Program → ℕ → TBody → Option Counted
over_M12 types program k body = let uses = uses_of types program k body in over MOST_BODY_MAKERS (maker_count uses (tree_of uses)) body.span

abbrev pub sum_of_ops : Types → Program → List TBody → ℕ
sum_of_ops types program [] = 0
sum_of_ops types program (body ∷ bodies) = op_count (body_ops types program body) + sum_of_ops types program bodies

-- the body at which the sum of those so far passes the largest
abbrev pub passing_body : Types → Program → ℕ → ℕ → List TBody → Option Span
passing_body types program largest so_far [] = None
passing_body types program largest so_far (body ∷ bodies) =
    let sum = so_far + op_count (body_ops types program body) in
    if nat_lt largest sum then Some body.span else passing_body types program largest sum bodies

-- that body, with the count of the whole text
abbrev pub over_M13 : Types → Program → Option Counted
over_M13 types program = elim (passing_body types program MOST_OPS 0 program.bodies) [
  | None ↦ None
  | Some at ↦ Some (counted (sum_of_ops types program program.bodies) at)
]
