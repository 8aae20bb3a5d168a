-- The op tree of a typed body, by cases on its nodes: each occurrence of a place, in order of evaluation.
use Rattle.std.specs.Prelude.{ℕ, suc, ◌-◌, Bool, true, false, not, ◌&&◌, if◌then◌else◌, List, [], ◌∷◌, ◌++◌, map, slice_get, Option, Some, None}
use Rattle.own_tree.specs.declared.op.OpKind.{OpKind}
use Rattle.own_tree.specs.declared.op.OpKind.TheVariants as kind
use Rattle.own_tree.specs.declared.place.Binding.{Binding}
use Rattle.own_tree.specs.declared.place.Mode.{Mode}
use Rattle.own_tree.specs.declared.place.Mode.TheVariants as mode
use Rattle.own_tree.specs.declared.place.Place.{Place}
use Rattle.own_tree.specs.declared.place.Ty.{Ty}
use Rattle.own_tree.specs.declared.place.Ty.TheVariants as type
use Rattle.own_tree.specs.declared.span.Span.{Span}
use Rattle.own_tree.specs.declared.typed.At.{At}
use Rattle.own_tree.specs.declared.typed.Passing.{Passing}
use Rattle.own_tree.specs.declared.typed.Passing.TheVariants as passing
use Rattle.own_tree.specs.declared.typed.TypedPath.{TypedPath}
use Rattle.own_tree.specs.OpSource.{Ops, op, nothing, either, loop, catch, scope, break_at, continue_at, return_at, halt, in_order}
use Rattle.own_tree.specs.TypedSource.{TExp, number, text, truth, path, parenthesized, consumed, negated, inverted, arithmetic, wrapping, compared, logic, choice, member, call, address, closure, function, TExps, no_exps, exp, TWhen, case_of, case_where, default, TStm, let_in, declare, ignore, assign, update, discard_self, if_then, if_else, else_if, loop_while, loop_repeat, loop_for, switch, leave, go_on, return_none, return_value, evaluate, TStms, no_stms, stm, TClauses, no_clauses, clause, TBlk, block, TBody, Program}
use Rattle.own_paths.specs.Captures.{captures, first_passing, other_passings}
use Rattle.own_shapes.specs.Places.{whole}
use Rattle.own_shapes.specs.Spans.{opening}
use Rattle.own_shapes.specs.Types.{Types, is_copyable}
use Rattle.own_paths.specs.Within.{node_of, path_of, pattern_bindings, patterns_bindings, locals}

-- ---- how a path that stands somewhere is used

pub data Use : Type 0 where
  -- its value is taken
  as_value : Use
  -- an argument of a `borrowing` parameter, a receiver of a `borrowing` method, the subject of a `switch`
  as_borrow : Use
  -- a receiver of a `mutating` method
  as_inout : Use

abbrev pub use_by : Passing → Use
use_by passing.ByValue = as_value
use_by passing.Borrow = as_borrow
use_by passing.Inout = as_inout
use_by passing.Consume = as_value
use_by passing.Closure = as_value

-- What is copyable is read, and what is not is consumed (SE-0390) or borrowed (SE-0377, SE-0432).
abbrev pub kind_of : Use → Bool → OpKind
kind_of as_value true = kind.Read
kind_of as_value false = kind.Consume
kind_of as_borrow true = kind.Read
kind_of as_borrow false = kind.Borrow
kind_of as_inout is_copyable = kind.Inout

-- ---- bindings

-- Whether the end of its scope ends a binding: what is borrowed or `inout` is its owner's, and `self` is given out
-- by `init` and taken apart after `deinit`.
abbrev pub has_end : Mode → Bool
has_end mode.Let = true
has_end mode.Var = true
has_end mode.Plain = true
has_end mode.Borrowing = false
has_end mode.Consuming = true
has_end mode.Inout = false
has_end mode.Turn = true
has_end mode.PatternOwned = true
has_end mode.PatternBorrowed = false
has_end mode.SelfBorrowing = false
has_end mode.SelfConsuming = true
has_end mode.SelfMutating = false
has_end mode.SelfInit = false
has_end mode.SelfDeinit = false
has_end mode.Closure = true

-- what the entry of a body does to `self` or a parameter
abbrev pub entry_kind : Mode → OpKind
entry_kind mode.Let = kind.Make
entry_kind mode.Var = kind.Make
entry_kind mode.Plain = kind.Make
entry_kind mode.Borrowing = kind.Make
entry_kind mode.Consuming = kind.Make
entry_kind mode.Inout = kind.Make
entry_kind mode.Turn = kind.Make
entry_kind mode.PatternOwned = kind.Make
entry_kind mode.PatternBorrowed = kind.Make
entry_kind mode.SelfBorrowing = kind.Make
entry_kind mode.SelfConsuming = kind.Make
entry_kind mode.SelfMutating = kind.Make
entry_kind mode.SelfInit = kind.Declare
entry_kind mode.SelfDeinit = kind.Make
entry_kind mode.Closure = kind.Make

abbrev pub ends : Option Binding → Bool
ends None = false
ends (Some b) = has_end b.mode

-- those that have an End
abbrev pub ended : List Binding → List ℕ → List ℕ
ended bindings [] = []
ended bindings (x ∷ xs) = if ends (slice_get bindings x) then x ∷ ended bindings xs else ended bindings xs

-- ---- single ops

abbrev pub op_of : OpKind → Place → Span → ℕ → Ops
op_of kind place span node = op (record { kind = kind; place = place; span = span; node = node })

-- at a node of its own, such as a path's
abbrev pub op_at : OpKind → Place → At → Ops
op_at kind place at = op_of kind place at.span at.id

-- an op on a binding, at its name
abbrev pub at_name : OpKind → ℕ → ℕ → Option Binding → Ops
at_name kind node x None = nothing
at_name kind node x (Some b) = op_of kind (whole x) b.span node

abbrev pub at_entry : ℕ → Option Binding → Ops
at_entry x None = nothing
at_entry x (Some b) = at_name (entry_kind b.mode) 0 x (Some b)

-- the `}` of a block or a `switch`, its last byte
abbrev pub closing : Span → Span
closing s = record { start = s.end - 1; end = s.end }

-- ---- conditions

-- the literal `true`, not in parentheses
abbrev pub is_literal_true : TExp → Bool
is_literal_true (truth at b) = b
is_literal_true e = false

-- A condition that is the literal `true` has no false side.
abbrev pub branch : TExp → Ops → Ops → Ops
branch c first second = if is_literal_true c then first else either first second

abbrev pub has_result : Ty → Bool
has_result type.Unit = false
has_result type.Int = true
has_result type.Bool = true
has_result (type.Named k) = true
has_result (type.Fun k) = true

-- ---- a `switch`

abbrev pub is_path : Option TypedPath → Bool
is_path None = false
is_path (Some p) = true

-- A clause: what it makes before its guard, the guard, and then its body, whose bindings end at the `}` of the
-- `switch`. Where the guard fails they have no End.
abbrev pub clause_tree : List Ops → Option Ops → Ops → Span → Ops
clause_tree makes None body span = either (in_order (makes ++ body ∷ break_at span ∷ [])) nothing
clause_tree makes (Some guard) body span =
    either (in_order (makes ++ guard ∷ either (in_order (body ∷ break_at span ∷ [])) nothing ∷ [])) nothing

module _ (types : Types) (program : Program) where
  abbrev pub make : At → ℕ → Ops
  make at x = at_name kind.Make at.id x (slice_get program.bindings x)

  -- a path that is used so
  abbrev pub path_ops : Use → TypedPath → Ops
  path_ops how p = op_at (kind_of how (is_copyable types p.at.ty)) p.place p.at

  -- a closure literal uses each binding that it captures, at its `{`
  abbrev pub capture_ops : At → ℕ → Ops
  capture_ops at k = in_order (map (λ c. op_of kind.Capture (whole c.binding) (opening at.span) at.id) (captures program k))

  -- the scope of these bindings
  abbrev pub scope_of : List ℕ → Span → List Ops → Ops
  scope_of xs close parts = scope (ended program.bindings xs) close (in_order parts)

  -- Whether a clause with a guard binds its names twice, once borrowed for the guard and once owned for its body: the
  -- `switch` consumes a noncopyable subject.
  abbrev pub binds_twice : TExp → Bool
  binds_twice subject = not (is_copyable types (node_of subject).ty) && not (is_path (path_of subject))

  abbrev pub turn_binding : Option ℕ → List ℕ
  turn_binding None = []
  turn_binding (Some x) = x ∷ []

  abbrev mutual
    pub exp_ops : TExp → Use → Ops
    exp_ops (number at n) how = nothing
    exp_ops (text at t) how = nothing
    exp_ops (truth at b) how = nothing
    exp_ops (path p) how = path_ops how p
    exp_ops (parenthesized at e) how = exp_ops e how
    exp_ops (consumed at p) how = op_at kind.Consume p.place p.at
    exp_ops (negated at mark e) how = exp_ops e as_value
    exp_ops (inverted at e) how = exp_ops e as_value
    exp_ops (arithmetic at o mark a b) how = in_order (exp_ops a as_value ∷ exp_ops b as_value ∷ [])
    exp_ops (wrapping at o a b) how = in_order (exp_ops a as_value ∷ exp_ops b as_value ∷ [])
    exp_ops (compared at o a b) how = in_order (exp_ops a as_value ∷ exp_ops b as_value ∷ [])
    exp_ops (logic at o a b) how = in_order (exp_ops a as_value ∷ either (exp_ops b as_value) nothing ∷ [])
    exp_ops (choice at c a b) how = in_order (exp_ops c as_value ∷ either (exp_ops a as_value) (exp_ops b as_value) ∷ [])
    exp_ops (member at e k) how = exp_ops e as_value
    exp_ops (call at to es passings) how = in_order (args_ops es passings)
    exp_ops (address p) how = op_at kind.Inout p.place p.at
    exp_ops (closure at k) how = capture_ops at k
    exp_ops (function at x) how = nothing

    pub args_ops : TExps → List Passing → List Ops
    args_ops no_exps ps = []
    args_ops (exp e es) ps = exp_ops e (use_by (first_passing ps)) ∷ args_ops es (other_passings ps)

  -- a clause by its head, with the ops of its statements
  abbrev pub clause_ops : TExp → At → Span → TWhen → TStms → List Ops → Ops
  clause_ops subject at span (case_of ps) ss body =
      clause_tree (map (make at) (patterns_bindings ps)) None (scope_of (patterns_bindings ps ++ locals ss) (closing at.span) body) span
  clause_ops subject at span default ss body = clause_tree [] None (scope_of (locals ss) (closing at.span) body) span
  clause_ops subject at span (case_where p guard) ss body =
      let names = pattern_bindings p in
      let owned = map suc names in
      clause_tree (map (make at) names) (Some (exp_ops guard as_value))
      (
      if binds_twice subject then scope_of (owned ++ locals ss) (closing at.span) (map (make at) owned ++ body)
      else scope_of (names ++ locals ss) (closing at.span) body
      ) span

  abbrev mutual
    pub stm_ops : TStm → Ops
    stm_ops (let_in at x e) = in_order (exp_ops e as_value ∷ make at x ∷ [])
    stm_ops (declare at x) = at_name kind.Declare at.id x (slice_get program.bindings x)
    stm_ops (ignore at e) = exp_ops e as_value
    stm_ops (assign at p e) = in_order (exp_ops e as_value ∷ op_at kind.Assign p.place p.at ∷ [])
    stm_ops (update at p o mark e) =
        in_order (exp_ops e as_value ∷ op_at kind.Read p.place p.at ∷ op_at kind.Assign p.place p.at ∷ [])
    stm_ops (discard_self at p) = op_at kind.Discard p at
    stm_ops (if_then at c a) = in_order (exp_ops c as_value ∷ branch c (block_ops a) nothing ∷ [])
    stm_ops (if_else at c a b) = in_order (exp_ops c as_value ∷ branch c (block_ops a) (block_ops b) ∷ [])
    stm_ops (else_if at c a s) = in_order (exp_ops c as_value ∷ branch c (block_ops a) (stm_ops s) ∷ [])
    stm_ops (loop_while at c a) = loop (in_order (exp_ops c as_value ∷ branch c (block_ops a) (break_at at.span) ∷ [])) nothing
    stm_ops (loop_repeat at a c) = loop (block_ops a) (in_order (exp_ops c as_value ∷ branch c nothing (break_at at.span) ∷ []))
    stm_ops (loop_for at x low o mark high (block body ss)) =
        let turn = turn_binding x in
        in_order (exp_ops low as_value ∷ exp_ops high as_value
        ∷ loop (either (scope_of (turn ++ locals ss) (closing body.span) (map (make at) turn ++ stms_ops ss)) (break_at at.span)) nothing ∷ [])
    stm_ops (switch at e cs) = in_order (exp_ops e as_borrow ∷ catch (in_order (clauses_ops e at cs ++ halt ∷ [])) ∷ [])
    stm_ops (leave at) = break_at at.span
    stm_ops (go_on at) = continue_at at.span
    stm_ops (return_none at) = return_at at.span
    stm_ops (return_value at e) = in_order (exp_ops e as_value ∷ return_at at.span ∷ [])
    stm_ops (evaluate at e) = exp_ops e as_value

    pub stms_ops : TStms → List Ops
    stms_ops no_stms = []
    stms_ops (stm s ss) = stm_ops s ∷ stms_ops ss

    pub block_ops : TBlk → Ops
    block_ops (block at ss) = scope_of (locals ss) (closing at.span) (stms_ops ss)

    pub clauses_ops : TExp → At → TClauses → List Ops
    clauses_ops subject at no_clauses = []
    clauses_ops subject at (clause span head ss cs) = clause_ops subject at span head ss (stms_ops ss) ∷ clauses_ops subject at cs

  -- ---- bodies

  -- The value of a body with a result whose block is one expression is returned, with the span of the expression.
  abbrev pub returning : Bool → TBlk → Ops
  returning true (block at (stm (evaluate node e) no_stms)) =
      scope_of [] (closing at.span) (exp_ops e as_value ∷ return_at (node_of e).span ∷ [])
  returning is_value b = block_ops b

  -- `self` and the parameters are made, or declared, and those that have an End end with the body.
  abbrev pub inner_ops : TBody → Ops
  inner_ops body =
      scope_of body.params body.close
      (map (λ x. at_entry x (slice_get program.bindings x)) body.params ++ returning (has_result body.result) body.block ∷ [])

  -- A body that falls off its end returns at its closing brace.
  abbrev pub body_ops : TBody → Ops
  body_ops body = in_order (inner_ops body ∷ return_at body.close ∷ [])
