-- What a run of a typed program does, by cases on the program.
use Rattle.std.specs.Prelude.{ℕ, zero, suc, ◌+◌, ℤ, pos, ◌-ℤ◌, int_lt, Bool, true, false, not, List, [], ◌∷◌, ◌++◌, map, slice_get, Option, Some, None, if◌then◌else◌}
use Rattle.own_tree.specs.declared.arithmetic.Arith.TheVariants as arith
use Rattle.own_tree.specs.declared.place.Mode.{Mode}
use Rattle.own_tree.specs.declared.place.Mode.TheVariants as mode
use Rattle.own_tree.specs.declared.tree.RangeOperator.{RangeOperator}
use Rattle.own_tree.specs.declared.tree.RangeOperator.TheVariants as range
use Rattle.own_tree.specs.declared.typed.At.{At}
use Rattle.own_tree.specs.declared.typed.BodyKind.{BodyKind}
use Rattle.own_tree.specs.declared.typed.BodyKind.TheVariants as kind
use Rattle.own_tree.specs.declared.typed.Logic.{Logic}
use Rattle.own_tree.specs.declared.typed.Logic.TheVariants as connective
use Rattle.own_tree.specs.declared.typed.Passing.{Passing}
use Rattle.own_tree.specs.declared.typed.Target.TheVariants as target
use Rattle.own_tree.specs.declared.typed.TypedPath.{TypedPath}
use Rattle.own_tree.specs.TypedSource.{TPat, TExp, number, text, truth, path, parenthesized, consumed, negated, inverted, arithmetic, wrapping, compared, logic, choice, member, call, address, closure, function, TExps, no_exps, exp, TWhen, case_of, case_where, default, TStm, let_in, declare, ignore, assign, update, discard_self, if_then, if_else, else_if, loop_while, loop_repeat, loop_for, switch, leave, go_on, return_none, return_value, evaluate, TStms, no_stms, stm, TClauses, no_clauses, clause, TBlk, block, TBody, Program}
use Rattle.own_paths.specs.Ops.{ended, has_result, binds_twice}
use Rattle.own_shapes.specs.Types.{Types, is_copyable, tracked}
use Rattle.own_paths.specs.Within.{node_of, path_of, pattern_bindings, patterns_bindings, locals}
use Rattle.own_runs.specs.Arithmetic.{as_int, as_bool, as_val, compare_vals}
use Rattle.own_runs.specs.Calls.{holder, item_bytes, text_of, spaced, slots_of, lend_all, construct, binding_at, shape_of_binding, locate, take_value, pass, apply, end_lent}
use Rattle.own_runs.specs.Destruction.{Passed, Call, end_value}
use Rattle.own_runs.specs.Events.{printed, line, ended_by_discard, Item, output_of, traced_output_of, events_of, Event}
use Rattle.own_runs.specs.Loops.{Flow, onward, broke, continued, returned, then_go, caught, while_turns, repeat_turns, for_turns}
use Rattle.own_runs.specs.Patterns.{chosen, bound_parts, end_rest}
use Rattle.own_runs.specs.Store.{binding, result, Location, Slot, absent, holds, refers, runs, State, Act, or_found, with_at, slot_at, set_slot, begin, finish, peek, put, read, vacate, move, root_at, below, hold, take_turn, take_level, note, log_item}
use Rattle.own_runs.specs.Values.{Val, int, bool, unit, struct, variant, hole, vacant, opened, Part, field, child}
use Rattle.own_ways.specs.Arithmetic.{computed, wrapped}
use Rattle.own_ways.specs.declared.traps.TheConstants.{EMPTY_RANGE}
use Rattle.own_ways.specs.Ways.{Way, gives, traps, stops, errs, strays, ◌>>=◌, ◌>>◌, pure, trap, stop, err, stray, pick, or_stray}

-- the last number of a range
abbrev pub last_of : RangeOperator → ℤ → ℤ
last_of range.HalfOpen high = high -ℤ pos 1
last_of range.Closed high = high

-- the end of a tracked value without its `deinit` (SE-0390)
abbrev pub forget : Val → Act (Unit {0})
forget (struct type (Some i) vs) = note (ended_by_discard type i)
forget (struct type None vs) = stray
forget (variant present vs) = stray
forget (int n) = stray
forget (bool b) = stray
forget unit = stray
forget hole = stray

-- the second part is evaluated where the first leaves it open
abbrev pub connected : Logic → Bool → Act Val → Act Val
connected connective.And true second = second
connected connective.And false second = pure (bool false)
connected connective.Or true second = pure (bool true)
connected connective.Or false second = second

-- ---- the bindings of a clause, where those of a guarded one are two where it consumes its subject

-- of a binding that is two, the second one, which the body sees
abbrev pub owned : List (ℕ × List Part) → List (ℕ × List Part)
owned bs = map (λ b. (suc b.0, b.1)) bs

-- bindings that are made between the guard and the body
abbrev pub late_parts : Bool → TWhen → List (ℕ × List Part) → List (ℕ × List Part)
late_parts twice (case_of ps) bs = []
late_parts twice (case_where p guard) bs = if twice then owned bs else []
late_parts twice default bs = []

-- those that the body sees
abbrev pub clause_names : Bool → TWhen → List ℕ
clause_names twice (case_of ps) = patterns_bindings ps
clause_names twice (case_where p guard) = if twice then map suc (pattern_bindings p) else pattern_bindings p
clause_names twice default = []

module _ (types : Types) (program : Program) (run : Call) (me level : ℕ) where
  -- ---- expressions

  -- A stored property of a value. Of a copyable one it is taken as that comes. Any other is a temporary, which waits
  -- at its node, and is destroyed right after the read.
  abbrev pub part_of : Bool → At → TExp → ℕ → Act Val → Act Val
  part_of true at e k value = value >>= λ v. or_found (child v (field k))
  part_of false at e k value =
      value >>= hold me (holder e) >>= λ l. read (below l (field k ∷ [])) >>= hold me at >>= λ to.
      end_value program run (types.shape (node_of e).ty) l level >> move to

  -- An operand waits as a number or a truth, and any other value at the node of its expression.
  abbrev mutual
    pub eval : TExp → Act Val
    eval (number at n) = pure (int n)
    eval (text at bytes) = stray
    eval (truth at b) = pure (bool b)
    eval (path p) = take_value types program run me level p
    eval (parenthesized at e) = eval e
    eval (consumed at p) = locate types program run me level p.place >>= move
    eval (negated at mark e) = eval e >>= as_int >>= λ n. as_val (computed arith.Neg mark.start (pos 0) n)
    eval (inverted at e) = eval e >>= as_bool >>= λ b. pure (bool (not b))
    eval (arithmetic at o mark a b) = eval a >>= as_int >>= λ x. eval b >>= as_int >>= λ y. as_val (computed o mark.start x y)
    eval (wrapping at o a b) = eval a >>= as_int >>= λ x. eval b >>= as_int >>= λ y. as_val (wrapped o x y)
    eval (compared at o a b) = eval a >>= λ x. eval b >>= λ y. compare_vals o x y
    eval (logic at o a b) = eval a >>= as_bool >>= λ x. connected o x (eval b >>= as_bool >>= λ y. pure (bool y))
    eval (choice at c a b) = eval c >>= as_bool >>= λ x. pick x (eval a) (eval b)
    eval (member at e k) = part_of (is_copyable types (node_of e).ty) at e k (eval e)
    eval (call at target.Print es passings) = items es >>= λ bytes. log_item (printed (line (spaced bytes))) >> pure unit
    eval (call at to es passings) =
        eval_all es passings >>= λ ps.
        lend_all ps >> apply types program run me level to ps >>= hold me at >>= λ l.
        end_lent types program run me level ps >> move l
    eval (address p) = stray
    eval (closure at k) = stray
    eval (function at x) = stray

    pub eval_all : TExps → List Passing → Act (List Passed)
    eval_all no_exps [] = pure []
    eval_all (exp e es) (p ∷ ps) =
        pass types program run me level p e (eval e) >>= λ first. eval_all es ps >>= λ rest. pure (first ∷ rest)
    eval_all no_exps (p ∷ ps) = stray
    eval_all (exp e es) [] = stray

    -- the items of a `print`
    pub items : TExps → Act (List (List ℕ))
    items no_exps = pure []
    items (exp e es) = item_bytes (text_of e) (eval e) >>= λ first. items es >>= λ rest. pure (first ∷ rest)

  abbrev pub test : TExp → Act Bool
  test e = eval e >>= as_bool

  -- the value of an expression that nothing takes is destroyed at once
  abbrev pub drop_value : TExp → Act (Unit {0})
  drop_value e = eval e >>= hold me (holder e) >>= λ l. end_value program run (types.shape (node_of e).ty) l level

  -- The old value of an assigned place is destroyed after the new one was evaluated.
  abbrev pub assign_value : TypedPath → TExp → Act (Unit {0})
  assign_value p e =
      eval e >>= hold me (holder e) >>= λ from. locate types program run me level p.place >>= λ l.
      end_value program run (types.shape p.at.ty) l level >> move from >>= put l

  -- ---- scopes

  -- what a binding holds is destroyed, and holes are passed over
  abbrev pub end_slot : ℕ → Slot → Act (Unit {0})
  end_slot x absent = pure tt
  end_slot x (holds v) = shape_of_binding types program run me level x >>= λ s. end_value program run s (root_at me (binding x)) level
  end_slot x (refers l) = pure tt
  end_slot x (runs body maker) = pure tt

  -- the last one first
  abbrev pub end_all : List ℕ → Act (Unit {0})
  end_all [] = pure tt
  end_all (x ∷ xs) = end_all xs >> slot_at me x >>= end_slot x

  -- every way out of a scope ends those of its bindings that have an End
  abbrev pub leave_scope : List ℕ → Flow → Act Flow
  leave_scope xs f = end_all (ended program.bindings xs) >> pure f

  -- ---- a `switch`

  -- A noncopyable place is borrowed. Any other subject is evaluated and waits at its node (SE-0432).
  abbrev pub subject_at : Bool → Option TypedPath → TExp → Act Location
  subject_at false (Some p) e = locate types program run me level p.place >>= λ l. read l >> pure l
  subject_at false None e = eval e >>= hold me (holder e)
  subject_at true p e = eval e >>= hold me (holder e)

  abbrev pub subject : TExp → Act Location
  subject e = subject_at (is_copyable types (node_of e).ty) (path_of e) e

  -- A binding that is borrowed stands for its part, and one that is owned takes it: a copy of what is copyable.
  abbrev pub bind_as : Mode → Bool → ℕ → Location → Act (Unit {0})
  bind_as mode.PatternBorrowed copies x l = set_slot me x (refers l)
  bind_as mode.PatternOwned copies x l = pick copies (read l) (move l) >>= λ v. set_slot me x (holds v)
  bind_as m copies x l = stray

  abbrev pub bind_part : ℕ → Location → Act (Unit {0})
  bind_part x l = binding_at types program run me level x >>= λ b. bind_as b.mode (is_copyable types b.ty) x l

  abbrev pub bind_all : List (ℕ × List Part) → Location → Act (Unit {0})
  bind_all [] l = pure tt
  bind_all (b ∷ bs) l = bind_part b.0 (below l b.1) >> bind_all bs l

  abbrev pub holds_guard : TWhen → Act Bool
  holds_guard (case_of ps) = pure true
  holds_guard (case_where p guard) = test guard
  holds_guard default = pure true

  -- what is left of a consumed subject is destroyed before the body runs
  abbrev pub take_apart : Bool → TPat → TExp → Location → Act (Unit {0})
  take_apart true p e l = end_rest program run p (types.shape (node_of e).ty) l level >> vacate l
  take_apart false p e l = pure tt

  -- A clause is taken: the names that only the body sees are bound, the rest of a consumed subject is destroyed, and
  -- the body runs.
  abbrev pub take_clause : TExp → TWhen → TPat → Location → List ℕ → (body : Act Flow) → Act Flow
  take_clause e head p l names body = do
    bind_all (late_parts (binds_twice types program e) head (bound_parts p [])) l
    take_apart (binds_twice types program e) p e l
    f ← body
    leave_scope names f

  -- The pattern that was chosen binds its names, and the clause is taken where its guard holds.
  abbrev pub run_clause : TExp → TWhen → TPat → Location → List ℕ → (body next : Act Flow) → Act Flow
  run_clause e head p l names body next = do
    bind_all (bound_parts p []) l
    go ← holds_guard head
    pick go (take_clause e head p l names body) next

  abbrev pub clause_or : TExp → TWhen → Option TPat → Location → List ℕ → (body next : Act Flow) → Act Flow
  clause_or e head None l names body next = next
  clause_or e head (Some p) l names body next = run_clause e head p l names body next

  -- ---- statements, with loops to a depth of turns

  module _ (depth : ℕ) where
    abbrev mutual
      pub exec : TStm → Act Flow
      exec (let_in at x e) = eval e >>= λ v. set_slot me x (holds v) >> pure onward
      exec (declare at x) = shape_of_binding types program run me level x >>= λ s. set_slot me x (holds (vacant s)) >> pure onward
      exec (ignore at e) = drop_value e >> pure onward
      exec (assign at p e) = assign_value p e >> pure onward
      exec (update at p o mark e) =
          eval e >>= as_int >>= λ y. locate types program run me level p.place >>= λ l.
          read l >>= as_int >>= λ x. as_val (computed o mark.start x y) >>= put l >> pure onward
      exec (discard_self at p) = locate types program run me level p >>= move >>= forget >> pure onward
      exec (if_then at c a) = test c >>= λ b. pick b (exec_block a) (pure onward)
      exec (if_else at c a b) = test c >>= λ x. pick x (exec_block a) (exec_block b)
      exec (else_if at c a s) = test c >>= λ b. pick b (exec_block a) (exec s)
      exec (loop_while at c a) = while_turns depth (test c) (exec_block a)
      exec (loop_repeat at a c) = repeat_turns depth (test c) (exec_block a)
      exec (loop_for at x low o mark high a) =
          eval low >>= as_int >>= λ i. eval high >>= as_int >>= λ j.
          pick (int_lt j i) (trap EMPTY_RANGE mark.start) (for_turns depth (λ n. exec_turn x n a) i (last_of o j))
      exec (switch at e cs) = subject e >>= λ l. exec_clauses cs e l >>= λ f. pure (caught f)
      exec (leave at) = pure (broke at.span)
      exec (go_on at) = pure (continued at.span)
      exec (return_none at) = pure (returned at.span)
      exec (return_value at e) = eval e >>= put (root_at me result) >> pure (returned at.span)
      exec (evaluate at e) = drop_value e >> pure onward

      pub exec_all : TStms → Act Flow
      exec_all no_stms = pure onward
      exec_all (stm s ss) = exec s >>= λ f. then_go f (exec_all ss)

      pub exec_block : TBlk → Act Flow
      exec_block (block at ss) = exec_all ss >>= leave_scope (locals ss)

      -- a turn of a `for`, whose variable belongs to the scope of the block
      pub exec_turn : Option ℕ → ℤ → TBlk → Act Flow
      exec_turn None n (block at ss) = exec_all ss >>= leave_scope (locals ss)
      exec_turn (Some x) n (block at ss) = set_slot me x (holds (int n)) >> exec_all ss >>= leave_scope (x ∷ locals ss)

      -- The first clause that matches and whose guard holds. There is one, unless a guard has changed the subject.
      pub exec_clauses : TClauses → TExp → Location → Act Flow
      exec_clauses no_clauses e l = err
      exec_clauses (clause span head ss cs) e l =
          peek l >>= λ v. or_found (chosen head v) >>= λ p.
          clause_or e head p l (clause_names (binds_twice types program e) head ++ locals ss) (exec_all ss) (exec_clauses cs e l)

    -- the block of a body: the value of one expression is returned
    abbrev pub exec_body : Bool → TBlk → Act Flow
    exec_body true (block at (stm (evaluate node e) no_stms)) = eval e >>= put (root_at me result) >> pure (returned (node_of e).span)
    exec_body is_value b = exec_block b

-- ---- bodies

-- the birth of a value whose `init` returns
abbrev pub completed : Bool → Val → Act Val
completed is_tracked (struct type None fields) = construct is_tracked type fields
completed is_tracked (struct type (Some i) fields) = stray
completed is_tracked (variant present vs) = stray
completed is_tracked (int n) = stray
completed is_tracked (bool b) = stray
completed is_tracked unit = stray
completed is_tracked hole = stray

-- a jump stands in a loop or a `switch` of the same body
abbrev pub come_back : Flow → Act (Unit {0})
come_back onward = pure tt
come_back (returned at) = pure tt
come_back (broke at) = stray
come_back (continued at) = stray

module _ (types : Types) (program : Program) where
  -- `self` of an `init` is taken out, and to return it with a hole is wrong
  abbrev pub made_self : ℕ → List ℕ → Act Val
  made_self me [] = stray
  made_self me (x ∷ xs) = do
    b ← or_stray (slice_get program.bindings x)
    v ← move (root_at me (binding x))
    completed (tracked (types.shape b.ty)) v

  -- Where a body with a result falls off its end, no result waits, and a hole is read.
  abbrev pub result_value : ℕ → Bool → Act Val
  result_value me false = pure unit
  result_value me true = read (root_at me result)

  abbrev pub body_value : ℕ → TBody → BodyKind → Act Val
  body_value me body kind.Initializer = made_self me body.params
  body_value me body kind.Function = result_value me (has_result body.result)
  body_value me body kind.Method = result_value me (has_result body.result)
  body_value me body kind.Deinitializer = result_value me (has_result body.result)
  body_value me body (kind.Closure outer) = result_value me (has_result body.result)

  -- the bindings of a body at its entry; those of an `init` begin with an opened `self`
  abbrev pub init_slots : List ℕ → List Passed → Act (ℕ → Slot)
  init_slots [] ps = stray
  init_slots (x ∷ xs) ps = do
    b ← or_stray (slice_get program.bindings x)
    rest ← slots_of xs ps
    pure (with_at x (holds (opened (types.shape b.ty))) rest)

  abbrev pub entry_slots : BodyKind → List ℕ → List Passed → Act (ℕ → Slot)
  entry_slots kind.Initializer xs ps = init_slots xs ps
  entry_slots kind.Function xs ps = slots_of xs ps
  entry_slots kind.Method xs ps = slots_of xs ps
  entry_slots kind.Deinitializer xs ps = slots_of xs ps
  entry_slots (kind.Closure outer) xs ps = slots_of xs ps

  -- what a body does once it has begun
  abbrev pub run_body : ℕ → Call → (me level : ℕ) → TBody → Act Val
  run_body depth run me level body = do
    f ← exec_body types program run me level depth (has_result body.result) body.block
    leave_scope types program run me level body.params f
    come_back f
    body_value me body body.kind

  -- A call once it has its turn takes a level.
  abbrev pub entered : ℕ → Call → (number : ℕ) → TBody → Option ℕ → List Passed → ℕ → Act Val
  entered depth run k body maker ps level = do
    take_level (level + 1)
    slots ← entry_slots body.kind body.params ps
    me ← begin (record { body = k; maker = maker; slots = slots; temporaries = λ node. hole; result = hole })
    v ← run_body depth run me (level + 1) body
    finish
    pure v

  -- Calls to a depth of turns, which no run with fewer turns left reaches. A call takes a turn.
  abbrev pub run_to : ℕ → Call
  run_to zero k maker ps level = stop
  run_to (suc depth) k maker ps level =
      or_stray (slice_get program.bodies k) >>= λ body. take_turn >> entered depth (run_to depth) k body maker ps level

-- ---- runs

-- How a run came out: it ended; it trapped, with a code and an offset in bytes; its turns were used up; or it
-- touched a hole.
pub data Outcome : Type 0 where
  Ended : Outcome
  Trapped : (code at : ℕ) → Outcome
  Cut : Outcome
  Wrong : Outcome

pub record Behaviour : Type 0 where
  pub outcome : Outcome
  pub log : List Item

abbrev pub output : Behaviour → List ℕ
output b = output_of b.log

abbrev pub traced_output : Types → Behaviour → List ℕ
traced_output types b = traced_output_of types b.log

abbrev pub events : Behaviour → List Event
events b = events_of b.log

-- What no typed program comes to counts as cut.
abbrev pub behaviour : Way State Val → Behaviour
behaviour (gives v s) = record { outcome = Ended; log = s.log }
behaviour (traps code at s) = record { outcome = Trapped code at; log = s.log }
behaviour (stops s) = record { outcome = Cut; log = s.log }
behaviour (errs s) = record { outcome = Wrong; log = s.log }
behaviour (strays s) = record { outcome = Cut; log = s.log }

abbrev pub start : List ℤ → ℕ → State
start input turns = record { store = []; turns = turns; births = 0; input = input; log = [] }

-- the run with an input and so many turns, from the call of `main`
unfoldable pub run_of : Types → Program → List ℤ → ℕ → Behaviour
run_of types program input turns = behaviour (run_to types program (suc turns) program.main None [] 0 (start input turns))
