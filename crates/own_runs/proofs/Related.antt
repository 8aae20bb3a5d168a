-- One induction over the language: where each elementary step is related to itself, calls to calls and loops to
-- loops, each run of a body is related to another run of the same body.
use Rattle.std.proofs.Common.{◌≡◌, ℕ, zero, suc, ◌+◌, ◌-◌, Bool, true, false, List, [], ◌∷◌, ◌++◌, Option, Some, None, length, take, refl, sym}
use Rattle.std.proofs.lemmas.List.{append-nil}
use Rattle.std.specs.Prelude.{◌==◌, ℤ, pos, slice_set, nat_le}
use Rattle.std.specs.Prelude.{int_lt}
use Rattle.own_tree.specs.declared.arithmetic.Arith.{Arith}
use Rattle.own_tree.specs.declared.arithmetic.Arith.TheVariants as arith
use Rattle.own_tree.specs.declared.limits.TheConstants.{MOST_LEVELS}
use Rattle.own_tree.specs.declared.place.Mode.{Mode}
use Rattle.own_tree.specs.declared.place.Mode.TheVariants as mode
use Rattle.own_tree.specs.declared.place.Place.{Place}
use Rattle.own_tree.specs.declared.typed.At.{At}
use Rattle.own_tree.specs.declared.typed.BodyKind.{BodyKind}
use Rattle.own_tree.specs.declared.typed.BodyKind.TheVariants as kind
use Rattle.own_tree.specs.declared.typed.Comparison.{Comparison}
use Rattle.own_tree.specs.declared.typed.Comparison.TheVariants as compare
use Rattle.own_tree.specs.declared.typed.Logic.{Logic}
use Rattle.own_tree.specs.declared.typed.Logic.TheVariants as connective
use Rattle.own_tree.specs.declared.typed.Passing.{Passing}
use Rattle.own_tree.specs.declared.typed.Passing.TheVariants as passing
use Rattle.own_tree.specs.declared.typed.Target.{Target}
use Rattle.own_tree.specs.declared.typed.Target.TheVariants as target
use Rattle.own_tree.specs.declared.typed.TypedPath.{TypedPath}
use Rattle.own_tree.specs.TypedSource.{TPat, any, bind, of_case, of_number, of_truth, TPats, no_pats, pat, TExp, number, text, truth, path, parenthesized, consumed, negated, inverted, arithmetic, wrapping, compared, logic, choice, member, call, address, closure, function, TExps, no_exps, exp, TWhen, case_of, case_where, default, TStm, let_in, declare, ignore, assign, update, discard_self, if_then, if_else, else_if, loop_while, loop_repeat, loop_for, switch, leave, go_on, return_none, return_value, evaluate, TStms, no_stms, stm, TClauses, no_clauses, clause, TBlk, block, TBody, Program}
use Rattle.own_paths.specs.Ops.{ended, binds_twice}
use Rattle.own_shapes.specs.Types.{Types, Shape, Shapes, Payloads, no_shapes, no_payloads, payloads, one_case_holds_tracked, copyable}
use Rattle.own_shapes.specs.Types as shape
use Rattle.own_paths.specs.Within.{node_of, path_of, locals}
use Rattle.own_runs.specs.Arithmetic.{compare_truths, as_int, as_bool, as_val, compare_vals}
use Rattle.own_runs.specs.Calls.{holder, item_bytes, slot_of, slots_of, value_given, values_given, spelled, note_use, lend, lend_all, construct, binding_at, shape_of_binding, declarer, owner_of, through, locate, take_value, closure_in, closure_of, give, text_of, lend_place, pass_borrowed, pass_receiver, pass_inout, pass_closure, pass, call_closure, apply, end_lent}
use Rattle.own_runs.specs.Destruction.{Passed, given, lent, lent_temporary, closed, Call, present_case, run_deinit, destroy_tracked, destroy, destroy_parts, destroy_case, end_value}
use Rattle.own_runs.specs.Events.{Event, made, used, Item, happened}
use Rattle.own_runs.specs.Loops.{Flow, onward, broke, continued, returned, then_go, after_turn, while_turns, repeat_turns, for_turns}
use Rattle.own_runs.specs.Patterns.{chosen, bound_parts, case_shapes, end_rest, end_payloads}
use Rattle.own_runs.specs.Run.{last_of, forget, connected, part_of, eval, eval_all, items, test, drop_value, assign_value, end_slot, end_all, leave_scope, subject_at, bind_as, bind_part, bind_all, holds_guard, take_apart, take_clause, run_clause, late_parts, clause_names, clause_or, exec, exec_all, exec_block, exec_turn, exec_clauses, exec_body, completed, come_back, made_self, result_value, body_value, init_slots, entry_slots, run_body, entered}
use Rattle.own_runs.specs.Store.{Root, binding, temporary, result, Location, Slot, absent, holds, refers, runs, Activation, State, Act, or_found, activation, set_activation, slot_at, set_slot, begin, finish, own_value, root_value, peek, put, read, vacate, move, hold, take_turn, take_level, log_item, note, born, read_input, first_or_zero, after_first, root_at, below}
use Rattle.own_runs.specs.Values.{Val, int, bool, unit, struct, variant, hole, Vals, is_whole, all_whole, emptied, vacant, Part, field, payload, Found, found, hollow, nowhere, child, value_at, with_value_at}
use Rattle.own_ways.specs.Arithmetic.{answered, computed, wrapped}
use Rattle.own_ways.specs.Exact.{Exact, Gives, Fails, exact}
use Rattle.own_ways.specs.Ways.{◌>>=◌, ◌>>◌, pure, trap, err, stray, look, change, pick, or_stray}

-- what does not hang on the turns that are left
abbrev pub IsTurnless : {A : Type 0} → (State → A) → Type 0
IsTurnless at = (s : State) (n : ℕ) → at (record s { turns = n }) ≡ at s

-- a change that has no part in turns, and that only adds to the log
pub record IsPlain (by : State → State) : Type 0 where
  pub apart : (s : State) (n : ℕ) → by (record s { turns = n }) ≡ record (by s) { turns = n }
  pub keeps : (s : State) → (by s).turns ≡ s.turns
  pub adds : (s : State) → (more : List Item) × ((by s).log ≡ s.log ++ more)

pub record IsClosed (Rel : (A : Type 0) → Act A → Act A → Type 0) : Type 1 where
  pub gives_ : {A : Type 0} (a : A) → Rel _ (pure a) (pure a)
  pub traps_ : {A : Type 0} (code at : ℕ) → Rel _ (trap {A = A} code at) (trap code at)
  pub errs_ : {A : Type 0} → Rel _ (err {A = A}) err
  pub strays_ : {A : Type 0} → Rel _ (stray {A = A}) stray
  pub looks : {A : Type 0} (at : State → A) → IsTurnless at → Rel _ (look at) (look at)
  pub changes : (by : State → State) → IsPlain by → Rel _ (change by) (change by)
  pub turns_ : Rel _ take_turn take_turn
  pub follows : {A B : Type 0} {p q : Act A} {f g : A → Act B} → Rel _ p q → ((a : A) → Rel _ (f a) (g a)) → Rel _ (p >>= f) (q >>= g)

-- loops to two depths, with related conditions and bodies
pub record AreLoopsRelated (Rel : (A : Type 0) → Act A → Act A → Type 0) (depth depth' : ℕ) : Type 0 where
  pub whiles : {c c' : Act Bool} {b b' : Act Flow} → Rel _ c c' → Rel _ b b' → Rel _ (while_turns depth c b) (while_turns depth' c' b')
  pub repeats : {c c' : Act Bool} {b b' : Act Flow} → Rel _ c c' → Rel _ b b' → Rel _ (repeat_turns depth c b) (repeat_turns depth' c' b')
  pub fors : {b b' : ℤ → Act Flow} → ((n : ℤ) → Rel _ (b n) (b' n)) → (first last : ℤ) → Rel _ (for_turns depth b first last) (for_turns depth' b' first last)

module _ (Rel : (A : Type 0) → Act A → Act A → Type 0) (closed_ : IsClosed Rel) where
  pub then_r : {A B : Type 0} {p q : Act A} {f g : A → Act B} → Rel _ p q → ((a : A) → Rel _ (f a) (g a)) → Rel _ (p >>= f) (q >>= g)
  then_r h hs = closed_.follows h hs

  pub next_r : {A B : Type 0} {p q : Act A} {r t : Act B} → Rel _ p q → Rel _ r t → Rel _ (p >> r) (q >> t)
  next_r h hs = closed_.follows h (λ a. hs)

  pub pick_r : {A : Type 0} (b : Bool) {p q r t : Act A} → Rel _ p q → Rel _ r t → Rel _ (pick b p r) (pick b q t)
  pick_r true h k = h
  pick_r false h k = k

  pub or_stray_r : {A : Type 0} (o : Option A) → Rel _ (or_stray o) (or_stray o)
  or_stray_r (Some a) = closed_.gives_ a
  or_stray_r None = closed_.strays_

  pub or_found_r : {A : Type 0} (o : Found A) → Rel _ (or_found o) (or_found o)
  or_found_r (found a) = closed_.gives_ a
  or_found_r hollow = closed_.errs_
  or_found_r nowhere = closed_.strays_

  pub activation_r : (a : ℕ) → Rel _ (activation a) (activation a)
  activation_r a = then_r (closed_.looks _ (λ s n. refl)) (λ o. or_stray_r o)

  pub set_activation_r : (a : ℕ) (new : Activation) → Rel _ (set_activation a new) (set_activation a new)
  set_activation_r a new = closed_.changes (λ s. record s { store = slice_set s.store a new }) (record { apart = λ s n. refl; keeps = λ s. refl; adds = λ s. ([], sym (append-nil s.log)) })

  pub pure_r : {A : Type 0} (a : A) → Rel _ (pure a) (pure a)
  pure_r a = closed_.gives_ a

  pub slot_r : (a x : ℕ) → Rel _ (slot_at a x) (slot_at a x)
  slot_r a x = then_r (activation_r a) (λ act. pure_r _)

  pub set_slot_r : (a x : ℕ) (s : Slot) → Rel _ (set_slot a x s) (set_slot a x s)
  set_slot_r a x s = then_r (activation_r a) (λ act. set_activation_r a _)

  pub begin_r : (new : Activation) → Rel _ (begin new) (begin new)
  begin_r new =
      then_r (closed_.looks (λ s. length s.store) (λ s n. refl)) (λ me.
      next_r (closed_.changes (λ s. record s { store = s.store ++ new ∷ [] }) (record { apart = λ s n. refl; keeps = λ s. refl; adds = λ s. ([], sym (append-nil s.log)) })) (pure_r me))

  pub finish_r : Rel _ finish finish
  finish_r = closed_.changes (λ s. record s { store = take (length s.store - 1) s.store }) (record { apart = λ s n. refl; keeps = λ s. refl; adds = λ s. ([], sym (append-nil s.log)) })

  pub own_value_r : (s : Slot) → Rel _ (own_value s) (own_value s)
  own_value_r absent = closed_.strays_
  own_value_r (holds v) = pure_r v
  own_value_r (refers l) = closed_.strays_
  own_value_r (runs body maker) = closed_.strays_

  pub root_value_r : (root : Root) (act : Activation) → Rel _ (root_value root act) (root_value root act)
  root_value_r (binding x) act = own_value_r (act.slots x)
  root_value_r (temporary node) act = pure_r _
  root_value_r result act = pure_r _

  pub peek_r : (l : Location) → Rel _ (peek l) (peek l)
  peek_r l = then_r (then_r (activation_r l.activation) (root_value_r l.root)) (λ v. or_found_r (value_at l.parts v))

  pub put_r : (l : Location) (new : Val) → Rel _ (put l new) (put l new)
  put_r l new =
      then_r (activation_r l.activation) (λ act. then_r (root_value_r l.root act) (λ old.
      then_r (or_found_r (with_value_at l.parts new old)) (λ changed. set_activation_r l.activation _)))

  pub read_r : (l : Location) → Rel _ (read l) (read l)
  read_r l = then_r (peek_r l) (λ v. pick_r (is_whole v) (pure_r v) closed_.errs_)

  pub vacate_r : (l : Location) → Rel _ (vacate l) (vacate l)
  vacate_r l = then_r (peek_r l) (λ v. put_r l (emptied v))

  pub move_r : (l : Location) → Rel _ (move l) (move l)
  move_r l = then_r (read_r l) (λ v. next_r (vacate_r l) (pure_r v))

  pub hold_r : (a : ℕ) (at : At) (v : Val) → Rel _ (hold a at v) (hold a at v)
  hold_r a at v = next_r (put_r (root_at a (temporary at.id)) v) (pure_r (root_at a (temporary at.id)))

  pub level_r : (level : ℕ) → Rel _ (take_level level) (take_level level)
  level_r level = pick_r (nat_le level MOST_LEVELS) (pure_r tt) (closed_.traps_ 3 0)

  pub log_r : (item : Item) → Rel _ (log_item item) (log_item item)
  log_r item = closed_.changes (λ s. record s { log = s.log ++ item ∷ [] }) (record { apart = λ s n. refl; keeps = λ s. refl; adds = λ s. (item ∷ [], refl) })

  pub note_r : (event : Event) → Rel _ (note event) (note event)
  note_r event = log_r (happened event)

  pub born_r : (type : ℕ) (fields : Vals) → Rel _ (born type fields) (born type fields)
  born_r type fields =
      then_r (closed_.looks (λ s. s.births + 1) (λ s n. refl)) (λ i.
      next_r (closed_.changes (λ s. record s { births = i }) (record { apart = λ s n. refl; keeps = λ s. refl; adds = λ s. ([], sym (append-nil s.log)) }))
      (next_r (note_r (made type i)) (pure_r (struct type (Some i) fields))))

  pub read_input_r : Rel _ read_input read_input
  read_input_r =
      then_r (closed_.looks (λ s. first_or_zero s.input) (λ s n. refl)) (λ n.
      next_r (closed_.changes (λ s. record s { input = after_first s.input }) (record { apart = λ s n. refl; keeps = λ s. refl; adds = λ s. ([], sym (append-nil s.log)) })) (pure_r (int n)))

  -- ---- arithmetic

  pub answered_r : (at : ℕ) (e : Exact) → Rel ℤ (answered at e) (answered at e)
  answered_r at (Gives n) = pure_r n
  answered_r at (Fails code) = closed_.traps_ code at

  pub computed_r : (o : Arith) (at : ℕ) (a b : ℤ) → Rel ℤ (computed o at a b) (computed o at a b)
  computed_r o at a b = answered_r at (exact o a b)

  pub wrapped_r : (o : Arith) (a b : ℤ) → Rel ℤ (wrapped o a b) (wrapped o a b)
  wrapped_r arith.Add a b = pure_r _
  wrapped_r arith.Sub a b = pure_r _
  wrapped_r arith.Mul a b = pure_r _
  wrapped_r arith.Div a b = closed_.strays_
  wrapped_r arith.Rem a b = closed_.strays_
  wrapped_r arith.Neg a b = closed_.strays_

  pub as_val_r : {p q : Act ℤ} → Rel ℤ p q → Rel _ (as_val p) (as_val q)
  as_val_r h = then_r h (λ n. pure_r (int n))

  pub truths_r : (o : Comparison) (a b : Bool) → Rel _ (compare_truths o a b) (compare_truths o a b)
  truths_r compare.Equal a b = pure_r _
  truths_r compare.Unequal a b = pure_r _
  truths_r compare.Less a b = closed_.strays_
  truths_r compare.LessEqual a b = closed_.strays_
  truths_r compare.Greater a b = closed_.strays_
  truths_r compare.GreaterEqual a b = closed_.strays_

  pub as_int_r : (v : Val) → Rel _ (as_int v) (as_int v)
  as_int_r (int n) = pure_r n
  as_int_r (bool b) = closed_.strays_
  as_int_r unit = closed_.strays_
  as_int_r (struct type i vs) = closed_.strays_
  as_int_r (variant present vs) = closed_.strays_
  as_int_r hole = closed_.strays_

  pub as_bool_r : (v : Val) → Rel _ (as_bool v) (as_bool v)
  as_bool_r (bool b) = pure_r b
  as_bool_r (int n) = closed_.strays_
  as_bool_r unit = closed_.strays_
  as_bool_r (struct type i vs) = closed_.strays_
  as_bool_r (variant present vs) = closed_.strays_
  as_bool_r hole = closed_.strays_

  pub compare_r : (o : Comparison) (a b : Val) → Rel _ (compare_vals o a b) (compare_vals o a b)
  compare_r o (int a) (int b) = pure_r _
  compare_r o (bool a) (bool b) = truths_r o a b
  compare_r o a b = closed_.strays_

  -- ---- what is passed

  pub slot_of_r : (p : Passed) → Rel _ (slot_of p) (slot_of p)
  slot_of_r (given l) = then_r (move_r l) (λ v. pure_r _)
  slot_of_r (lent l) = pure_r _
  slot_of_r (lent_temporary s l) = pure_r _
  slot_of_r (closed body maker) = pure_r _

  pub slots_of_r : (xs : List ℕ) (ps : List Passed) → Rel _ (slots_of xs ps) (slots_of xs ps)
  slots_of_r [] [] = pure_r _
  slots_of_r (x ∷ xs) (p ∷ ps) = then_r (slot_of_r p) (λ s. then_r (slots_of_r xs ps) (λ rest. pure_r _))
  slots_of_r [] (p ∷ ps) = closed_.strays_
  slots_of_r (x ∷ xs) [] = closed_.strays_

  pub value_given_r : (p : Passed) → Rel _ (value_given p) (value_given p)
  value_given_r (given l) = move_r l
  value_given_r (lent l) = closed_.strays_
  value_given_r (lent_temporary s l) = closed_.strays_
  value_given_r (closed body maker) = closed_.strays_

  pub values_given_r : (ps : List Passed) → Rel _ (values_given ps) (values_given ps)
  values_given_r [] = pure_r _
  values_given_r (p ∷ ps) = then_r (value_given_r p) (λ v. then_r (values_given_r ps) (λ vs. pure_r _))

  pub spelled_r : (v : Val) → Rel _ (spelled v) (spelled v)
  spelled_r (int n) = pure_r _
  spelled_r (bool b) = pure_r _
  spelled_r unit = closed_.strays_
  spelled_r (struct type i vs) = closed_.strays_
  spelled_r (variant present vs) = closed_.strays_
  spelled_r hole = closed_.strays_

  pub item_bytes_r : (o : Option (List ℕ)) {p q : Act Val} → Rel _ p q → Rel _ (item_bytes o p) (item_bytes o q)
  item_bytes_r (Some bytes) h = pure_r bytes
  item_bytes_r None h = then_r h spelled_r

  pub note_use_r : (v : Val) → Rel _ (note_use v) (note_use v)
  note_use_r (struct type (Some i) vs) = note_r (used type i)
  note_use_r (struct type None vs) = pure_r tt
  note_use_r (variant present vs) = pure_r tt
  note_use_r (int n) = pure_r tt
  note_use_r (bool b) = pure_r tt
  note_use_r unit = pure_r tt
  note_use_r hole = pure_r tt

  pub lend_r : (p : Passed) → Rel _ (lend p) (lend p)
  lend_r (lent l) = then_r (read_r l) note_use_r
  lend_r (lent_temporary s l) = then_r (read_r l) note_use_r
  lend_r (given l) = pure_r tt
  lend_r (closed body maker) = pure_r tt

  pub lend_all_r : (ps : List Passed) → Rel _ (lend_all ps) (lend_all ps)
  lend_all_r [] = pure_r tt
  lend_all_r (p ∷ ps) = next_r (lend_r p) (lend_all_r ps)

  pub construct_r : (b : Bool) (type : ℕ) (vs : Vals) → Rel _ (construct b type vs) (construct b type vs)
  construct_r true type vs = born_r type vs
  construct_r false type vs = pure_r _

  pub forget_r : (v : Val) → Rel _ (forget v) (forget v)
  forget_r (struct type (Some i) vs) = note_r _
  forget_r (struct type None vs) = closed_.strays_
  forget_r (variant present vs) = closed_.strays_
  forget_r (int n) = closed_.strays_
  forget_r (bool b) = closed_.strays_
  forget_r unit = closed_.strays_
  forget_r hole = closed_.strays_

  pub completed_r : (b : Bool) (v : Val) → Rel _ (completed b v) (completed b v)
  completed_r b (struct type None vs) = construct_r b type vs
  completed_r b (struct type (Some i) vs) = closed_.strays_
  completed_r b (variant present vs) = closed_.strays_
  completed_r b (int n) = closed_.strays_
  completed_r b (bool c) = closed_.strays_
  completed_r b unit = closed_.strays_
  completed_r b hole = closed_.strays_

  pub come_back_r : (f : Flow) → Rel _ (come_back f) (come_back f)
  come_back_r onward = pure_r tt
  come_back_r (returned at) = pure_r tt
  come_back_r (broke at) = closed_.strays_
  come_back_r (continued at) = closed_.strays_

  pub then_go_r : (f : Flow) {p q : Act Flow} → Rel _ p q → Rel _ (then_go f p) (then_go f q)
  then_go_r onward h = h
  then_go_r (broke at) h = pure_r _
  then_go_r (continued at) h = pure_r _
  then_go_r (returned at) h = pure_r _

  pub after_turn_r : (f : Flow) {p q : Act Flow} → Rel _ p q → Rel _ (after_turn f p) (after_turn f q)
  after_turn_r onward h = h
  after_turn_r (continued at) h = h
  after_turn_r (broke at) h = pure_r _
  after_turn_r (returned at) h = pure_r _

  pub connected_r : (o : Logic) (b : Bool) {p q : Act Val} → Rel _ p q → Rel _ (connected o b p) (connected o b q)
  connected_r connective.And true h = h
  connected_r connective.And false h = pure_r _
  connected_r connective.Or true h = pure_r _
  connected_r connective.Or false h = h

  module _ (types : Types) (program : Program) where
    pub init_slots_r : (xs : List ℕ) (ps : List Passed) → Rel _ (init_slots types program xs ps) (init_slots types program xs ps)
    init_slots_r [] ps = closed_.strays_
    init_slots_r (x ∷ xs) ps = then_r (or_stray_r _) (λ b. then_r (slots_of_r xs ps) (λ rest. pure_r _))

    pub entry_slots_r : (k : BodyKind) (xs : List ℕ) (ps : List Passed) → Rel _ (entry_slots types program k xs ps) (entry_slots types program k xs ps)
    entry_slots_r kind.Initializer xs ps = init_slots_r xs ps
    entry_slots_r kind.Function xs ps = slots_of_r xs ps
    entry_slots_r kind.Method xs ps = slots_of_r xs ps
    entry_slots_r kind.Deinitializer xs ps = slots_of_r xs ps
    entry_slots_r (kind.Closure outer) xs ps = slots_of_r xs ps

    pub made_self_r : (me : ℕ) (xs : List ℕ) → Rel _ (made_self types program me xs) (made_self types program me xs)
    made_self_r me [] = closed_.strays_
    made_self_r me (x ∷ xs) = then_r (or_stray_r _) (λ b. then_r (move_r (root_at me (binding x))) (λ v. completed_r _ v))

    pub result_r : (me : ℕ) (b : Bool) → Rel _ (result_value types program me b) (result_value types program me b)
    result_r me false = pure_r unit
    result_r me true = read_r (root_at me result)

    pub body_value_r : (me : ℕ) (b : TBody) (k : BodyKind) → Rel _ (body_value types program me b k) (body_value types program me b k)
    body_value_r me b kind.Initializer = made_self_r me b.params
    body_value_r me b kind.Function = result_r me _
    body_value_r me b kind.Method = result_r me _
    body_value_r me b kind.Deinitializer = result_r me _
    body_value_r me b (kind.Closure outer) = result_r me _

  -- ---- two callers of the same calls

  module _ (types : Types) (program : Program) (run run' : Call) (calls : (k : ℕ) (maker : Option ℕ) (ps : List Passed) (level : ℕ) → Rel _ (run k maker ps level) (run' k maker ps level)) where
    pub present_case_r : (v : Val) {each each' : ℕ → Act (Unit {0})} → ((n : ℕ) → Rel _ (each n) (each' n)) → Rel _ (present_case v each) (present_case v each')
    present_case_r (variant present vs) h = h present
    present_case_r hole h = pure_r tt
    present_case_r (int n) h = closed_.strays_
    present_case_r (bool b) h = closed_.strays_
    present_case_r unit h = closed_.strays_
    present_case_r (struct type i vs) h = closed_.strays_

    pub run_deinit_r : (type i : ℕ) (l : Location) (level : ℕ) → Rel _ (run_deinit program run type i l level) (run_deinit program run' type i l level)
    run_deinit_r type i l level =
        then_r (or_stray_r _) (λ body. next_r (calls body None (lent l ∷ []) level) (next_r (note_r _) (then_r (peek_r l) (λ v. put_r l _))))

    pub destroy_tracked_r : (v : Val) (l : Location) (level : ℕ) {p q : Act (Unit {0})} → Rel _ p q → Rel _ (destroy_tracked program run v l level p) (destroy_tracked program run' v l level q)
    destroy_tracked_r (struct type (Some i) vs) l level h =
        pick_r (all_whole vs) (next_r (next_r (next_r (level_r _) (run_deinit_r type i l _)) h) (put_r l hole)) closed_.errs_
    destroy_tracked_r hole l level h = pure_r tt
    destroy_tracked_r (struct type None vs) l level h = closed_.strays_
    destroy_tracked_r (int n) l level h = closed_.strays_
    destroy_tracked_r (bool b) l level h = closed_.strays_
    destroy_tracked_r unit l level h = closed_.strays_
    destroy_tracked_r (variant present vs) l level h = closed_.strays_

    mutual
      pub destroy_r : (s : Shape) (l : Location) (level : ℕ) → Rel _ (destroy program run s l level) (destroy program run' s l level)
      destroy_r shape.number l level = pure_r tt
      destroy_r shape.truth l level = pure_r tt
      destroy_r shape.no_value l level = pure_r tt
      destroy_r shape.closure l level = pure_r tt
      destroy_r (shape.struct head fields) l level =
          pick_r head.has_deinit
          (then_r (peek_r l) (λ v. destroy_tracked_r v l level (parts_r field 0 fields l (level + 1))))
          (parts_r field 0 fields l level)
      destroy_r (shape.enum head cases) l level =
          pick_r (one_case_holds_tracked cases)
          (then_r (peek_r l) (λ v. present_case_r v (λ present.
          next_r (next_r (level_r _) (case_r cases present present l (level + 1))) (put_r l hole))))
          (pure_r tt)

      pub parts_r : (part : ℕ → Part) (k : ℕ) (ss : Shapes) (l : Location) (level : ℕ) → Rel _ (destroy_parts program run part k ss l level) (destroy_parts program run' part k ss l level)
      parts_r part k no_shapes l level = pure_r tt
      parts_r part k (shape.shape s ss) l level = next_r (destroy_r s (below l (part k ∷ [])) level) (parts_r part (suc k) ss l level)

      pub case_r : (cs : Payloads) (k present : ℕ) (l : Location) (level : ℕ) → Rel _ (destroy_case program run cs k present l level) (destroy_case program run' cs k present l level)
      case_r no_payloads k present l level = closed_.strays_
      case_r (payloads ss cs) zero present l level = parts_r (payload present) 0 ss l level
      case_r (payloads ss cs) (suc k) present l level = case_r cs k present l level

    pub end_value_r : (s : Shape) (l : Location) (level : ℕ) → Rel _ (end_value program run s l level) (end_value program run' s l level)
    end_value_r s l level = next_r (destroy_r s l level) (vacate_r l)

    mutual
      pub end_rest_r : (p : TPat) (s : Shape) (l : Location) (level : ℕ) → Rel _ (end_rest program run p s l level) (end_rest program run' p s l level)
      end_rest_r any s l level = end_value_r s l level
      end_rest_r (bind x) s l level = pure_r tt
      end_rest_r (of_case c ps) s l level = end_payloads_r c 0 ps (case_shapes s c) l level
      end_rest_r (of_number n) s l level = pure_r tt
      end_rest_r (of_truth b) s l level = pure_r tt

      pub end_payloads_r : (c k : ℕ) (ps : TPats) (ss : Shapes) (l : Location) (level : ℕ) → Rel _ (end_payloads program run c k ps ss l level) (end_payloads program run' c k ps ss l level)
      end_payloads_r c k no_pats ss l level = pure_r tt
      end_payloads_r c k (pat p ps) no_shapes l level = closed_.strays_
      end_payloads_r c k (pat p ps) (shape.shape s ss) l level = next_r (end_rest_r p s (below l (payload c k ∷ [])) level) (end_payloads_r c (suc k) ps ss l level)

    module _ (me level : ℕ) where
      pub binding_at_r : (x : ℕ) → Rel _ (binding_at types program run me level x) (binding_at types program run' me level x)
      binding_at_r x = or_stray_r _

      pub shape_r : (x : ℕ) → Rel _ (shape_of_binding types program run me level x) (shape_of_binding types program run' me level x)
      shape_r x = then_r (binding_at_r x) (λ b. pure_r _)

      pub declarer_r : (older body a : ℕ) → Rel _ (declarer types program run me level older body a) (declarer types program run' me level older body a)
      declarer_r zero body a = closed_.strays_
      declarer_r (suc older) body a =
          then_r (activation_r a) (λ act. pick_r (act.body == body) (pure_r a) (then_r (or_stray_r act.maker) (λ maker. declarer_r older body maker)))

      pub owner_r : (x : ℕ) → Rel _ (owner_of types program run me level x) (owner_of types program run' me level x)
      owner_r x = then_r (binding_at_r x) (λ b. declarer_r (suc me) b.body me)

      pub through_r : (s : Slot) (a : ℕ) (p : Place) → Rel _ (through types program run me level s a p) (through types program run' me level s a p)
      through_r (holds v) a p = pure_r _
      through_r (refers l) a p = pure_r _
      through_r absent a p = closed_.strays_
      through_r (runs body maker) a p = closed_.strays_

      pub locate_r : (p : Place) → Rel _ (locate types program run me level p) (locate types program run' me level p)
      locate_r p = then_r (owner_r p.binding) (λ a. then_r (slot_r a p.binding) (λ s. through_r s a p))

      pub take_value_r : (p : TypedPath) → Rel _ (take_value types program run me level p) (take_value types program run' me level p)
      take_value_r p = then_r (locate_r p.place) (λ l. pick_r (copyable (types.shape p.at.ty)) (read_r l) (move_r l))

      pub closure_in_r : (s : Slot) → Rel _ (closure_in types program run me level s) (closure_in types program run' me level s)
      closure_in_r (runs body maker) = pure_r _
      closure_in_r absent = closed_.strays_
      closure_in_r (holds v) = closed_.strays_
      closure_in_r (refers l) = closed_.strays_

      pub closure_of_r : (x : ℕ) → Rel _ (closure_of types program run me level x) (closure_of types program run' me level x)
      closure_of_r x = then_r (owner_r x) (λ a. then_r (slot_r a x) closure_in_r)

      pub give_r : (e : TExp) {p q : Act Val} → Rel _ p q → Rel _ (give types program run me level e p) (give types program run' me level e q)
      give_r e h = then_r (then_r h (λ v. hold_r me (holder e) v)) (λ l. pure_r _)

      pub lend_place_r : (p : TypedPath) → Rel _ (lend_place types program run me level p) (lend_place types program run' me level p)
      lend_place_r p = then_r (locate_r p.place) (λ l. pure_r _)

      pub pass_borrowed_r : (o : Option TypedPath) (e : TExp) {p q : Act Val} → Rel _ p q → Rel _ (pass_borrowed types program run me level o e p) (pass_borrowed types program run' me level o e q)
      pass_borrowed_r (Some p) e h = lend_place_r p
      pass_borrowed_r None e h = then_r (then_r h (λ v. hold_r me (holder e) v)) (λ l. pure_r _)

      pub pass_receiver_r : (o : Option TypedPath) → Rel _ (pass_receiver types program run me level o) (pass_receiver types program run' me level o)
      pass_receiver_r (Some p) = lend_place_r p
      pass_receiver_r None = closed_.strays_

      pub pass_inout_r : (e : TExp) → Rel _ (pass_inout types program run me level e) (pass_inout types program run' me level e)
      pass_inout_r (address p) = lend_place_r p
      pass_inout_r e = pass_receiver_r (path_of e)

      pub pass_closure_r : (e : TExp) → Rel _ (pass_closure types program run me level e) (pass_closure types program run' me level e)
      pass_closure_r (closure at body) = pure_r _
      pass_closure_r (function at x) = closure_of_r x
      pass_closure_r (parenthesized at e) = pass_closure_r e
      pass_closure_r e = closed_.strays_

      pub pass_r : (how : Passing) (e : TExp) {p q : Act Val} → Rel _ p q → Rel _ (pass types program run me level how e p) (pass types program run' me level how e q)
      pass_r passing.ByValue e h = give_r e h
      pass_r passing.Consume e h = give_r e h
      pass_r passing.Borrow e h = pass_borrowed_r (path_of e) e h
      pass_r passing.Inout e h = pass_inout_r e
      pass_r passing.Closure e h = pass_closure_r e

      pub call_closure_r : (c : Passed) (ps : List Passed) → Rel _ (call_closure types program run me level c ps) (call_closure types program run' me level c ps)
      call_closure_r (closed body maker) ps = calls body (Some maker) ps level
      call_closure_r (given l) ps = closed_.strays_
      call_closure_r (lent l) ps = closed_.strays_
      call_closure_r (lent_temporary s l) ps = closed_.strays_

      pub apply_r : (to : Target) (ps : List Passed) → Rel _ (apply types program run me level to ps) (apply types program run' me level to ps)
      apply_r (target.Function body) ps = calls body None ps level
      apply_r (target.Method body) ps = calls body None ps level
      apply_r (target.Init body) ps = calls body None ps level
      apply_r (target.Memberwise t) ps = then_r (values_given_r ps) (λ vs. construct_r _ t vs)
      apply_r (target.Case t present) ps = then_r (values_given_r ps) (λ vs. pure_r _)
      apply_r (target.Closure x) ps = then_r (closure_of_r x) (λ c. call_closure_r c ps)
      apply_r target.Print ps = closed_.strays_
      apply_r target.ReadInt [] = read_input_r
      apply_r target.ReadInt (p ∷ ps) = closed_.strays_

      pub end_lent_r : (ps : List Passed) → Rel _ (end_lent types program run me level ps) (end_lent types program run' me level ps)
      end_lent_r [] = pure_r tt
      end_lent_r (lent_temporary s l ∷ ps) = next_r (end_lent_r ps) (end_value_r s l level)
      end_lent_r (given l ∷ ps) = end_lent_r ps
      end_lent_r (lent l ∷ ps) = end_lent_r ps
      end_lent_r (closed body maker ∷ ps) = end_lent_r ps

      -- ---- expressions

      pub part_of_r : (b : Bool) (at : At) (e : TExp) (k : ℕ) {p q : Act Val} → Rel _ p q → Rel _ (part_of types program run me level b at e k p) (part_of types program run' me level b at e k q)
      part_of_r true at e k h = then_r h (λ v. or_found_r (child v (field k)))
      part_of_r false at e k h =
          then_r (then_r h (λ v. hold_r me (holder e) v)) (λ l.
          then_r (then_r (read_r (below l (field k ∷ []))) (λ v. hold_r me at v)) (λ to. next_r (end_value_r (types.shape (node_of e).ty) l level) (move_r to)))

      mutual
        pub eval_r : (e : TExp) → Rel _ (eval types program run me level e) (eval types program run' me level e)
        eval_r (number at n) = pure_r _
        eval_r (text at bytes) = closed_.strays_
        eval_r (truth at b) = pure_r _
        eval_r (path p) = take_value_r p
        eval_r (parenthesized at e) = eval_r e
        eval_r (consumed at p) = then_r (locate_r p.place) move_r
        eval_r (negated at mark e) = then_r (then_r (eval_r e) as_int_r) (λ n. as_val_r (computed_r arith.Neg mark.start (pos 0) n))
        eval_r (inverted at e) = then_r (then_r (eval_r e) as_bool_r) (λ b. pure_r _)
        eval_r (arithmetic at o mark a b) =
            then_r (then_r (eval_r a) as_int_r) (λ x. then_r (then_r (eval_r b) as_int_r) (λ y. as_val_r (computed_r o mark.start x y)))
        eval_r (wrapping at o a b) =
            then_r (then_r (eval_r a) as_int_r) (λ x. then_r (then_r (eval_r b) as_int_r) (λ y. as_val_r (wrapped_r o x y)))
        eval_r (compared at o a b) = then_r (eval_r a) (λ x. then_r (eval_r b) (λ y. compare_r o x y))
        eval_r (logic at o a b) =
            then_r (then_r (eval_r a) as_bool_r) (λ x. connected_r o x (then_r (then_r (eval_r b) as_bool_r) (λ y. pure_r _)))
        eval_r (choice at c a b) = then_r (then_r (eval_r c) as_bool_r) (λ x. pick_r x (eval_r a) (eval_r b))
        eval_r (member at e k) = part_of_r (copyable (types.shape (node_of e).ty)) at e k (eval_r e)
        eval_r (call at target.Print es passings) = then_r (items_r es) (λ bytes. next_r (log_r _) (pure_r unit))
        eval_r (call at to es passings) =
            then_r (eval_all_r es passings) (λ ps.
            then_r (then_r (next_r (lend_all_r ps) (apply_r to ps)) (λ v. hold_r me at v)) (λ l. next_r (end_lent_r ps) (move_r l)))
        eval_r (address p) = closed_.strays_
        eval_r (closure at k) = closed_.strays_
        eval_r (function at x) = closed_.strays_

        pub eval_all_r : (es : TExps) (ps : List Passing) → Rel _ (eval_all types program run me level es ps) (eval_all types program run' me level es ps)
        eval_all_r no_exps [] = pure_r []
        eval_all_r (exp e es) (p ∷ ps) = then_r (pass_r p e (eval_r e)) (λ first. then_r (eval_all_r es ps) (λ rest. pure_r _))
        eval_all_r no_exps (p ∷ ps) = closed_.strays_
        eval_all_r (exp e es) [] = closed_.strays_

        pub items_r : (es : TExps) → Rel _ (items types program run me level es) (items types program run' me level es)
        items_r no_exps = pure_r []
        items_r (exp e es) = then_r (item_bytes_r (text_of e) (eval_r e)) (λ first. then_r (items_r es) (λ rest. pure_r _))

      pub test_r : (e : TExp) → Rel _ (test types program run me level e) (test types program run' me level e)
      test_r e = then_r (eval_r e) as_bool_r

      pub drop_value_r : (e : TExp) → Rel _ (drop_value types program run me level e) (drop_value types program run' me level e)
      drop_value_r e = then_r (then_r (eval_r e) (λ v. hold_r me (holder e) v)) (λ l. end_value_r (types.shape (node_of e).ty) l level)

      pub assign_value_r : (p : TypedPath) (e : TExp) → Rel _ (assign_value types program run me level p e) (assign_value types program run' me level p e)
      assign_value_r p e =
          then_r (then_r (eval_r e) (λ v. hold_r me (holder e) v)) (λ from.
          then_r (locate_r p.place) (λ l. then_r (next_r (end_value_r (types.shape p.at.ty) l level) (move_r from)) (λ v. put_r l v)))

      -- ---- scopes and clauses

      pub end_slot_r : (x : ℕ) (s : Slot) → Rel _ (end_slot types program run me level x s) (end_slot types program run' me level x s)
      end_slot_r x absent = pure_r tt
      end_slot_r x (holds v) = then_r (shape_r x) (λ s. end_value_r s (root_at me (binding x)) level)
      end_slot_r x (refers l) = pure_r tt
      end_slot_r x (runs body maker) = pure_r tt

      pub end_all_r : (xs : List ℕ) → Rel _ (end_all types program run me level xs) (end_all types program run' me level xs)
      end_all_r [] = pure_r tt
      end_all_r (x ∷ xs) = then_r (next_r (end_all_r xs) (slot_r me x)) (λ s. end_slot_r x s)

      pub leave_scope_r : (xs : List ℕ) (f : Flow) → Rel _ (leave_scope types program run me level xs f) (leave_scope types program run' me level xs f)
      leave_scope_r xs f = next_r (end_all_r (ended program.bindings xs)) (pure_r f)

      pub subject_at_r : (b : Bool) (p : Option TypedPath) (e : TExp) → Rel _ (subject_at types program run me level b p e) (subject_at types program run' me level b p e)
      subject_at_r false (Some p) e = then_r (locate_r p.place) (λ l. next_r (read_r l) (pure_r l))
      subject_at_r false None e = then_r (eval_r e) (λ v. hold_r me (holder e) v)
      subject_at_r true p e = then_r (eval_r e) (λ v. hold_r me (holder e) v)

      pub bind_as_r : (m : Mode) (b : Bool) (x : ℕ) (l : Location) → Rel _ (bind_as types program run me level m b x l) (bind_as types program run' me level m b x l)
      bind_as_r mode.PatternBorrowed b x l = set_slot_r me x (refers l)
      bind_as_r mode.PatternOwned b x l = then_r (pick_r b (read_r l) (move_r l)) (λ v. set_slot_r me x (holds v))
      bind_as_r m b x l = closed_.strays_

      pub bind_part_r : (x : ℕ) (l : Location) → Rel _ (bind_part types program run me level x l) (bind_part types program run' me level x l)
      bind_part_r x l = then_r (binding_at_r x) (λ b. bind_as_r b.mode _ x l)

      pub bind_all_r : (bs : List (ℕ × List Part)) (l : Location) → Rel _ (bind_all types program run me level bs l) (bind_all types program run' me level bs l)
      bind_all_r [] l = pure_r tt
      bind_all_r (b ∷ bs) l = next_r (bind_part_r b.0 (below l b.1)) (bind_all_r bs l)

      pub holds_guard_r : (head : TWhen) → Rel _ (holds_guard types program run me level head) (holds_guard types program run' me level head)
      holds_guard_r (case_of ps) = pure_r true
      holds_guard_r (case_where p guard) = test_r guard
      holds_guard_r default = pure_r true

      pub take_apart_r : (b : Bool) (p : TPat) (e : TExp) (l : Location) → Rel _ (take_apart types program run me level b p e l) (take_apart types program run' me level b p e l)
      take_apart_r true p e l = next_r (end_rest_r p (types.shape (node_of e).ty) l level) (vacate_r l)
      take_apart_r false p e l = pure_r tt

      pub take_clause_r : (e : TExp) (head : TWhen) (p : TPat) (l : Location) (names : List ℕ) {body body' : Act Flow} → Rel _ body body'
          → Rel _ (take_clause types program run me level e head p l names body) (take_clause types program run' me level e head p l names body')
      take_clause_r e head p l names h =
          next_r (bind_all_r (late_parts (binds_twice types program e) head (bound_parts p [])) l)
          (next_r (take_apart_r (binds_twice types program e) p e l) (then_r h (λ f. leave_scope_r names f)))

      pub run_clause_r : (e : TExp) (head : TWhen) (p : TPat) (l : Location) (names : List ℕ) {body body' next next' : Act Flow} → Rel _ body body' → Rel _ next next'
          → Rel _ (run_clause types program run me level e head p l names body next) (run_clause types program run' me level e head p l names body' next')
      run_clause_r e head p l names h k =
          next_r (bind_all_r (bound_parts p []) l) (then_r (holds_guard_r head) (λ go. pick_r go (take_clause_r e head p l names h) k))

      pub clause_or_r : (e : TExp) (head : TWhen) (o : Option TPat) (l : Location) (names : List ℕ) {body body' next next' : Act Flow} → Rel _ body body' → Rel _ next next'
          → Rel _ (clause_or types program run me level e head o l names body next) (clause_or types program run' me level e head o l names body' next')
      clause_or_r e head None l names h k = k
      clause_or_r e head (Some p) l names h k = run_clause_r e head p l names h k

      -- ---- statements: loops to two depths

      module _ (depth depth' : ℕ) (loops : AreLoopsRelated Rel depth depth') where
        mutual
          pub exec_r : (s : TStm) → Rel _ (exec types program run me level depth s) (exec types program run' me level depth' s)
          exec_r (let_in at x e) = then_r (eval_r e) (λ v. next_r (set_slot_r me x (holds v)) (pure_r onward))
          exec_r (declare at x) = then_r (shape_r x) (λ s. next_r (set_slot_r me x (holds (vacant s))) (pure_r onward))
          exec_r (ignore at e) = next_r (drop_value_r e) (pure_r _)
          exec_r (assign at p e) = next_r (assign_value_r p e) (pure_r _)
          exec_r (update at p o mark e) =
              then_r (then_r (eval_r e) as_int_r) (λ y. then_r (locate_r p.place) (λ l.
              then_r (then_r (read_r l) as_int_r) (λ x. next_r (then_r (as_val_r (computed_r o mark.start x y)) (λ v. put_r l v)) (pure_r _))))
          exec_r (discard_self at p) = next_r (then_r (then_r (locate_r p) move_r) forget_r) (pure_r _)
          exec_r (if_then at c a) = then_r (test_r c) (λ b. pick_r b (exec_block_r a) (pure_r _))
          exec_r (if_else at c a b) = then_r (test_r c) (λ x. pick_r x (exec_block_r a) (exec_block_r b))
          exec_r (else_if at c a s) = then_r (test_r c) (λ b. pick_r b (exec_block_r a) (exec_r s))
          exec_r (loop_while at c a) = loops.whiles (test_r c) (exec_block_r a)
          exec_r (loop_repeat at a c) = loops.repeats (test_r c) (exec_block_r a)
          exec_r (loop_for at x low o mark high a) =
              then_r (then_r (eval_r low) as_int_r) (λ i. then_r (then_r (eval_r high) as_int_r) (λ j.
              pick_r (int_lt j i) (closed_.traps_ 4 mark.start) (loops.fors (λ n. exec_turn_r x n a) i (last_of o j))))
          exec_r (switch at e cs) = then_r (subject_at_r (copyable (types.shape (node_of e).ty)) (path_of e) e) (λ l. then_r (exec_clauses_r cs e l) (λ f. pure_r _))
          exec_r (leave at) = pure_r _
          exec_r (go_on at) = pure_r _
          exec_r (return_none at) = pure_r _
          exec_r (return_value at e) = next_r (then_r (eval_r e) (λ v. put_r (root_at me result) v)) (pure_r _)
          exec_r (evaluate at e) = next_r (drop_value_r e) (pure_r _)

          pub exec_all_r : (ss : TStms) → Rel _ (exec_all types program run me level depth ss) (exec_all types program run' me level depth' ss)
          exec_all_r no_stms = pure_r _
          exec_all_r (stm s ss) = then_r (exec_r s) (λ f. then_go_r f (exec_all_r ss))

          pub exec_block_r : (b : TBlk) → Rel _ (exec_block types program run me level depth b) (exec_block types program run' me level depth' b)
          exec_block_r (block at ss) = then_r (exec_all_r ss) (λ f. leave_scope_r (locals ss) f)

          pub exec_turn_r : (x : Option ℕ) (n : ℤ) (b : TBlk) → Rel _ (exec_turn types program run me level depth x n b) (exec_turn types program run' me level depth' x n b)
          exec_turn_r None n (block at ss) = then_r (exec_all_r ss) (λ f. leave_scope_r (locals ss) f)
          exec_turn_r (Some x) n (block at ss) = then_r (next_r (set_slot_r me x (holds (int n))) (exec_all_r ss)) (λ f. leave_scope_r (x ∷ locals ss) f)

          pub exec_clauses_r : (cs : TClauses) (e : TExp) (l : Location) → Rel _ (exec_clauses types program run me level depth cs e l) (exec_clauses types program run' me level depth' cs e l)
          exec_clauses_r no_clauses e l = closed_.errs_
          exec_clauses_r (clause span head ss cs) e l =
              then_r (peek_r l) (λ v. then_r (or_found_r (chosen head v)) (λ p.
              clause_or_r e head p l (clause_names (binds_twice types program e) head ++ locals ss) (exec_all_r ss) (exec_clauses_r cs e l)))

        pub exec_body_r : (is_value : Bool) (b : TBlk) → Rel _ (exec_body types program run me level depth is_value b) (exec_body types program run' me level depth' is_value b)
        exec_body_r true (block at (stm (evaluate node e) no_stms)) = next_r (then_r (eval_r e) (λ v. put_r (root_at me result) v)) (pure_r _)
        exec_body_r is_value b = exec_block_r b

        pub run_body_r : (b : TBody) → Rel _ (run_body types program depth run me level b) (run_body types program depth' run' me level b)
        run_body_r b =
            then_r (exec_body_r _ b.block) (λ f. next_r (leave_scope_r b.params f) (next_r (come_back_r f) (body_value_r types program me b b.kind)))

    -- a call after its turn
    pub entered_r : (depth depth' : ℕ) → AreLoopsRelated Rel depth depth' → (k : ℕ) (b : TBody) (maker : Option ℕ) (ps : List Passed) (level : ℕ)
        → Rel _ (entered types program depth run k b maker ps level) (entered types program depth' run' k b maker ps level)
    entered_r depth depth' loops k b maker ps level =
        next_r (level_r _) (then_r (entry_slots_r types program b.kind b.params ps) (λ slots.
        then_r (begin_r _) (λ me. then_r (run_body_r me (level + 1) depth depth' loops b) (λ v. next_r finish_r (pure_r v)))))
