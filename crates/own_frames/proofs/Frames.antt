-- A run changes nothing beyond its own activation but what it was given: one induction over the language.
use Rattle.std.proofs.Common.{◌≡◌, ℕ, zero, suc, ◌+◌, ◌-◌, ◌<◌, Bool, true, false, List, [], ◌∷◌, ◌++◌, Option, Some, None, length, take, refl, sym, ap, ◌∙◌, subst, arith, length-append, inl, inr}
use Rattle.std.specs.Prelude.{ℤ, pos, ◌+ℤ◌, int_lt, int_le, ◌⊎◌, not, ◌&&◌, ◌==◌, if◌then◌else◌, map, slice_get, slice_set, nat_le}
use Rattle.std.proofs.lemmas.Bool.Decides.{Decides-eqb}
use Rattle.own_tree.specs.declared.arithmetic.Arith.{Arith}
use Rattle.own_tree.specs.declared.arithmetic.Arith.TheVariants as arith_
use Rattle.own_tree.specs.declared.limits.TheConstants.{MOST_LEVELS}
use Rattle.own_tree.specs.declared.place.Binding.{Binding}
use Rattle.own_tree.specs.declared.place.Mode.{Mode}
use Rattle.own_tree.specs.declared.place.Mode.TheVariants as mode
use Rattle.own_tree.specs.declared.place.Place.{Place}
use Rattle.own_tree.specs.declared.typed.At.{At}
use Rattle.own_tree.specs.declared.typed.BodyKind.{BodyKind}
use Rattle.own_tree.specs.declared.typed.BodyKind.TheVariants as kind
use Rattle.own_tree.specs.declared.typed.Comparison.{Comparison}
use Rattle.own_tree.specs.declared.typed.Comparison.TheVariants as compare
use Rattle.own_tree.specs.declared.typed.Logic.{Logic}
use Rattle.own_tree.specs.declared.typed.Logic.TheVariants as connective
use Rattle.own_tree.specs.declared.typed.Passing.{Passing}
use Rattle.own_tree.specs.declared.typed.Passing.TheVariants as passing
use Rattle.own_tree.specs.declared.typed.Target.{Target}
use Rattle.own_tree.specs.declared.typed.Target.TheVariants as target
use Rattle.own_tree.specs.declared.typed.TypedPath.{TypedPath}
use Rattle.own_tree.specs.TypedSource.{TPat, any, bind, of_case, of_number, of_truth, TPats, no_pats, pat, TExp, number, text, truth, path, parenthesized, consumed, negated, inverted, arithmetic, wrapping, compared, logic, choice, member, call, address, closure, function, TExps, no_exps, exp, TWhen, case_of, case_where, default, TStm, let_in, declare, ignore, assign, update, discard_self, if_then, if_else, else_if, loop_while, loop_repeat, loop_for, switch, leave, go_on, return_none, return_value, evaluate, TStms, no_stms, stm, TClauses, no_clauses, clause, TBlk, block, TBody, Program}
use Rattle.own_paths.specs.Ops.{ended, is_path, binds_twice}
use Rattle.own_shapes.specs.Types.{Types, Shape, Shapes, Payloads, no_shapes, no_payloads, payloads, one_case_holds_tracked, is_copyable}
use Rattle.own_shapes.specs.Types as shape
use Rattle.own_paths.specs.Within.{node_of, path_of, locals}
use Rattle.own_runs.specs.Arithmetic.{compare_truths, as_int, as_bool, as_val, compare_vals}
use Rattle.own_runs.specs.Calls.{holder, item_bytes, slot_of, slots_of, value_given, values_given, spelled, note_use, lend, lend_all, construct, binding_at, shape_of_binding, declarer, owner_of, through, locate, take_value, closure_in, closure_of, give, text_of, lend_place, pass_borrowed, pass_receiver, pass_inout, pass_closure, pass, call_closure, apply, end_lent}
use Rattle.own_runs.specs.Destruction.{Passed, given, lent, lent_temporary, closed, Call, deinit_of, without_number, present_case, run_deinit, destroy_tracked, destroy, destroy_parts, destroy_case, end_value}
use Rattle.own_runs.specs.Events.{Event, made, used, ended_by_deinit, Item, happened}
use Rattle.own_runs.specs.Loops.{Flow, onward, broke, continued, returned, then_go, after_turn, while_turns, repeat_turns, for_turns}
use Rattle.own_runs.specs.Patterns.{matches, this_or, first_match, chosen, bound_parts, payload_parts, case_shapes, end_rest, end_payloads}
use Rattle.own_runs.specs.Run.{last_of, forget, connected, owned, part_of, eval, eval_all, items, test, drop_value, assign_value, end_slot, end_all, leave_scope, subject_at, bind_as, bind_part, bind_all, holds_guard, take_apart, take_clause, run_clause, late_parts, clause_names, clause_or, exec, exec_all, exec_block, exec_turn, exec_clauses, exec_body, completed, come_back, made_self, result_value, body_value, init_slots, entry_slots, run_body, entered, run_to}
use Rattle.own_runs.specs.Store.{binding, temporary, result, Location, Slot, absent, holds, refers, runs, Activation, State, Act, or_found, activation, with_at, slot_at, set_slot, begin, finish, peek, put, read, vacate, move, hold, turn_of, take_turn, take_level, log_item, note, born, read_input, after_first, root_at, below}
use Rattle.own_runs.specs.Values.{Val, int, bool, unit, struct, variant, hole, Vals, all_whole, emptied, vacant, opened, Part, field, payload, child, Found, found, hollow, nowhere, and_then}
use Rattle.own_ways.specs.Arithmetic.{answered, computed, wrapped}
use Rattle.own_ways.specs.Exact.{Exact, Gives, Fails, exact}
use Rattle.own_ways.specs.Ways.{after, ◌>>=◌, ◌>>◌, pure, trap, stop, err, stray, pick, or_stray}
use Rattle.own_frames.specs.Frame.{link, bare, links, seen_at, seen, Apart, Grant, Ok, lends, is_closure, home_in, home_of, at_root, Reach, after_self, entry_params, Suits, Takes, Calls, Granted, Leads, Closed, PassedFits, AllFit, MakerFits, Admits, Framed, CallsFrame}
use Rattle.own_frames.specs.Tame.{CalledWith, shows, TakenBy, SuitsArgs, Writes, Names, Within, WritesPath, BorrowOk, InoutOk, ClosureOk, TamePass, TameTarget, TameExp, TameArgs, TameItems, Copies, ShownPat, ShownPats, ShownHead, TameGuard, is_shown, TameSubject, TameStm, TameStms, TameBlock, TameClauses, TameProgram}
use Rattle.std.proofs.lemmas.List.{length-set}
use Rattle.own_shapes.proofs.Lists.{set_other}
use Rattle.own_runs.proofs.Lists.{get_last, take_all}
use Rattle.own_frames.proofs.StoreFacts.{false_true, get_set_same, take_set, get_take, get_map, map_get, links_take, linked_get, length_take_one, get_take_same, get_append}
use Rattle.own_frames.proofs.Writing.{ok_bind, ok_map, Looks, then_looks, pure_looks, stray_looks, trap_looks, pick_looks, or_stray_looks, or_found_looks, activation_looks, slot_looks, peek_looks, read_looks, Written, put_ok}

abbrev pub Any : {A : Type 0} → A → Type 0
Any a = Unit {0}

-- ---- arithmetic only looks

answered_looks : (at : ℕ) (e : Exact) → Looks (answered at e)
answered_looks at (Gives n) = pure_looks n
answered_looks at (Fails code) = trap_looks code at

computed_looks : (o : Arith) (at : ℕ) (a b : ℤ) → Looks (computed o at a b)
computed_looks o at a b = answered_looks at (exact o a b)

wrapped_looks : (o : Arith) (a b : ℤ) → Looks (wrapped {S = State} o a b)
wrapped_looks arith_.Add a b = pure_looks _
wrapped_looks arith_.Sub a b = pure_looks _
wrapped_looks arith_.Mul a b = pure_looks _
wrapped_looks arith_.Div a b = stray_looks
wrapped_looks arith_.Rem a b = stray_looks
wrapped_looks arith_.Neg a b = stray_looks

as_val_looks : (p : Act ℤ) → Looks p → Looks (as_val p)
as_val_looks p h = then_looks p _ h (λ n. pure_looks (int n))

truths_looks : (o : Comparison) (a b : Bool) → Looks (compare_truths o a b)
truths_looks compare.Equal a b = pure_looks _
truths_looks compare.Unequal a b = pure_looks _
truths_looks compare.Less a b = stray_looks
truths_looks compare.LessEqual a b = stray_looks
truths_looks compare.Greater a b = stray_looks
truths_looks compare.GreaterEqual a b = stray_looks

as_int_looks : (v : Val) → Looks (as_int v)
as_int_looks (int n) = pure_looks n
as_int_looks (bool b) = stray_looks
as_int_looks unit = stray_looks
as_int_looks (struct type i vs) = stray_looks
as_int_looks (variant present vs) = stray_looks
as_int_looks hole = stray_looks

as_bool_looks : (v : Val) → Looks (as_bool v)
as_bool_looks (bool b) = pure_looks b
as_bool_looks (int n) = stray_looks
as_bool_looks unit = stray_looks
as_bool_looks (struct type i vs) = stray_looks
as_bool_looks (variant present vs) = stray_looks
as_bool_looks hole = stray_looks

compare_looks : (o : Comparison) (a b : Val) → Looks (compare_vals o a b)
compare_looks o (int a) (int b) = pure_looks _
compare_looks o (bool a) (bool b) = truths_looks o a b
compare_looks o a b = stray_looks

spelled_looks : (v : Val) → Looks (spelled v)
spelled_looks (int n) = pure_looks _
spelled_looks (bool b) = pure_looks _
spelled_looks unit = stray_looks
spelled_looks (struct type i vs) = stray_looks
spelled_looks (variant present vs) = stray_looks
spelled_looks hole = stray_looks

come_back_looks : (f : Flow) → Looks (come_back f)
come_back_looks onward = pure_looks tt
come_back_looks (returned at) = pure_looks tt
come_back_looks (broke at) = stray_looks
come_back_looks (continued at) = stray_looks

module _ (types : Types) (program : Program) (reach : Reach) (grant : Grant) (me k : ℕ) where
  -- its own, or given
  abbrev pub Mine : Location → Type 0
  Mine l = (l.activation ≡ me) ⊎ grant.may l

  abbrev pub Fits : ℕ → Slot → Type 0
  Fits x absent = Unit {0}
  Fits x (holds v) = Unit {0}
  Fits x (refers l) = reach.borrowed x ≡ false → Mine l
  Fits x (runs k' m) = Calls program reach grant k' m × Takes program reach k' (reach.formals x)

  abbrev pub MakerOf : Option ℕ → Type 0
  MakerOf o = (x : ℕ) (c : Bool) → reach.captured k x c → (m : ℕ) × (o ≡ Some m) × grant.sees x c m

  -- the invariant of an activation while it is the last one
  pub record Inside (st : State) : Type 0 where
    pub top : length st.store ≡ suc me
    pub act : Activation
    pub here : slice_get st.store me ≡ Some act
    pub whose : act.body ≡ k
    pub maker : MakerOf act.maker
    pub slots : (x : ℕ) → Fits x (act.slots x)
    pub closed_ : Closed program reach grant (links (take me st.store))

  pub record Step (old new : State) : Type 0 where
    pub linked : links (take me new.store) ≡ links (take me old.store)
    pub apart : (l : Location) → l.activation < me → ((w : Location) → grant.may w → Apart w l)
        → seen new.store l ≡ seen old.store l

  pub record Keeps {A : Type 0} (Q : A → Type 0) (p : Act A) : Type 0 where
    pub by : (st : State) → Inside st → Ok (λ a st'. Step st st' × Inside st' × Q a) (p st)

  step_same : (st : State) → Step st st
  step_same st = record { linked = refl; apart = λ l lt out. refl }

  step_then : (a b c : State) → Step a b → Step b c → Step a c
  step_then a b c r s = record { linked = s.linked ∙ r.linked; apart = λ l lt out. s.apart l lt out ∙ r.apart l lt out }

  pub then_keeps : {A B : Type 0} {Q : A → Type 0} {P : B → Type 0} (p : Act A) (f : A → Act B) → Keeps Q p
      → ((a : A) → Q a → Keeps P (f a)) → Keeps P (p >>= f)
  then_keeps {Q = Q} {P = P} p f h k = record {
    by =
        λ st i. ok_bind (λ a st'. Step st st' × Inside st' × Q a) (λ b st'. Step st st' × Inside st' × P b) (p st) f
        (h.by st i) (λ a st1 q.
        ok_map (λ b st2. Step st1 st2 × Inside st2 × P b) (λ b st2. Step st st2 × Inside st2 × P b) (f a st1)
        ((k a q.2).by st1 q.1) (λ b st2 r. (step_then st st1 st2 q.0 r.0, r.1, r.2)));
  }

  pub weak_keeps : {A : Type 0} {Q P : A → Type 0} (p : Act A) → Keeps Q p → ((a : A) → Q a → P a) → Keeps P p
  weak_keeps {Q = Q} {P = P} p h w =
      record {
        by = λ st i. ok_map (λ a st'. Step st st' × Inside st' × Q a) (λ a st'. Step st st' × Inside st' × P a)
            (p st) (h.by st i) (λ a st1 q. (q.0, q.1, w a q.2));
      }

  pub pure_q : {A : Type 0} {Q : A → Type 0} (a : A) → Q a → Keeps Q (pure a)
  pure_q a q = record { by = λ st i. (step_same st, i, q) }

  pub pure_keeps : {A : Type 0} (a : A) → Keeps Any (pure a)
  pure_keeps a = record { by = λ st i. (step_same st, i, tt) }

  pub stray_keeps : {A : Type 0} {Q : A → Type 0} → Keeps Q (stray {A = A})
  stray_keeps = record { by = λ st i. tt }

  pub err_keeps : {A : Type 0} {Q : A → Type 0} → Keeps Q (err {A = A})
  err_keeps = record { by = λ st i. tt }

  pub stop_keeps : {A : Type 0} {Q : A → Type 0} → Keeps Q (stop {A = A})
  stop_keeps = record { by = λ st i. tt }

  pub trap_keeps : {A : Type 0} {Q : A → Type 0} (c t : ℕ) → Keeps Q (trap {A = A} c t)
  trap_keeps c t = record { by = λ st i. tt }

  pub pick_keeps : {A : Type 0} {Q : A → Type 0} (b : Bool) (p q : Act A) → Keeps Q p → Keeps Q q → Keeps Q (pick b p q)
  pick_keeps true p q hp hq = hp
  pick_keeps false p q hp hq = hq

  -- what only looks
  pub look_keeps : {A : Type 0} (p : Act A) → Looks p → Keeps Any p
  look_keeps p h = record {
    by = λ st i. ok_map (λ a st'. st' ≡ st) (λ a st'. Step st st' × Inside st' × Unit {0}) (p st) (h.by st) (λ a st' e.
        subst (λ s. Step st s × Inside s × Unit {0}) (sym e) (step_same st, i, tt));
  }

  -- a step that leaves the store
  pub again : (st st' : State) → st.store ≡ st'.store → Inside st → Step st st' × Inside st' × Unit {0}
  again st st' e i = (
    record { linked = ap (λ s. links (take me s)) (sym e); apart = λ l lt out. ap (λ s. seen s l) (sym e) },
    record {
      top = ap length (sym e) ∙ i.top;
      act = i.act;
      here = ap (λ s. slice_get s me) (sym e) ∙ i.here;
      whose = i.whose;
      maker = i.maker;
      slots = i.slots;
      closed_ = subst (λ s. Closed program reach grant (links (take me s))) e i.closed_;
    },
    tt,
  )

  turn_from : (n : ℕ) (st : State) → Inside st
      → Ok (λ (a : Unit {0}) st'. Step st st' × Inside st' × Unit {0}) (turn_of n st)
  turn_from zero st i = tt
  turn_from (suc n) st i = again st (record st { turns = n }) refl i

  pub turn_keeps : Keeps Any take_turn
  turn_keeps = record { by = λ st i. turn_from st.turns st i }

  pub log_keeps : (item : Item) → Keeps Any (log_item item)
  log_keeps item = record { by = λ st i. again st (record st { log = st.log ++ item ∷ [] }) refl i }

  pub note_keeps : (e : Event) → Keeps Any (note e)
  note_keeps e = log_keeps (happened e)

  pub level_keeps : (l : ℕ) → Keeps Any (take_level l)
  level_keeps l = pick_keeps (nat_le l MOST_LEVELS) _ _ (pure_keeps tt) (trap_keeps 3 0)

  pub born_keeps : (t : ℕ) (vs : Vals) → Keeps Any (born t vs)
  born_keeps t vs =
      record {
        by = λ st i. again st
            (record st { births = st.births + 1; log = st.log ++ happened (made t (st.births + 1)) ∷ [] }) refl i;
      }

  pub input_keeps : Keeps Any read_input
  input_keeps = record { by = λ st i. again st (record st { input = after_first st.input }) refl i }

  -- the same with its two steps read off the goal
  then_i : {A B : Type 0} {Q : A → Type 0} {P : B → Type 0} {p : Act A} {f : A → Act B} → Keeps Q p
      → ((a : A) → Q a → Keeps P (f a)) → Keeps P (p >>= f)
  then_i {p = p} {f = f} h k = then_keeps p f h k

  next_i : {A B : Type 0} {Q : A → Type 0} {P : B → Type 0} {p : Act A} {q : Act B} → Keeps Q p → Keeps P q
      → Keeps P (p >> q)
  next_i {p = p} {q = q} h k = then_keeps p (λ a. q) h (λ a u. k)

  look_i : {A : Type 0} {p : Act A} → Looks p → Keeps Any p
  look_i {p = p} h = look_keeps p h

  pick_i : {A : Type 0} {Q : A → Type 0} (b : Bool) {p q : Act A} → Keeps Q p → Keeps Q q → Keeps Q (pick b p q)
  pick_i b {p = p} {q = q} hp hq = pick_keeps b p q hp hq

  -- ---- writes

  fits_link : (x : ℕ) (s : Slot) → Fits x s → Fits x (link s)
  fits_link x absent f = f
  fits_link x (holds v) f = f
  fits_link x (refers l) f = f
  fits_link x (runs k' m) f = f

  fits_unlink : (x : ℕ) (s : Slot) → Fits x (link s) → Fits x s
  fits_unlink x absent f = f
  fits_unlink x (holds v) f = f
  fits_unlink x (refers l) f = f
  fits_unlink x (runs k' m) f = f

  same_links_fit : (act act' : Activation) → bare act' ≡ bare act → ((x : ℕ) → Fits x (act.slots x)) → (x : ℕ)
      → Fits x (act'.slots x)
  same_links_fit act act' e f x =
      fits_unlink x (act'.slots x) (subst (λ a. Fits x (a.slots x)) (sym e) (fits_link x (act.slots x) (f x)))

  -- a step that keeps the links, and what lies apart from all that it may change
  pub carried : (st st' : State) → Inside st → length st'.store ≡ length st.store → links st'.store ≡ links st.store
      → ((l : Location) → l.activation < me → ((w : Location) → grant.may w → Apart w l)
      → seen st'.store l ≡ seen st.store l)
      → Step st st' × Inside st' × Unit {0}
  carried st st' i many linked apart =
      let below_same : links (take me st'.store) ≡ links (take me st.store) =
      links_take me st'.store ∙ ap (take me) linked ∙ sym (links_take me st.store) in
      let a = linked_get st.store st'.store me i.act linked i.here in (
        record { linked = below_same; apart = apart },
        record {
          top = many ∙ i.top;
          act = a.0;
          here = a.1;
          whose = ap (λ x. x.body) a.2 ∙ i.whose;
          maker = subst MakerOf (sym (ap (λ x. x.maker) a.2)) i.maker;
          slots = same_links_fit i.act a.0 a.2 i.slots;
          closed_ = subst (Closed program reach grant) (sym below_same) i.closed_;
        },
        tt,
      )

  mine_apart : (l : Location) → l.activation < me → ((w : Location) → grant.may w → Apart w l) → (w : Location) → Mine w
      → Apart w l
  mine_apart l lt out w (inr may) = out w may
  mine_apart l lt out w (inl here) = inl (λ e. omega (arith, lt, here, e))

  pub put_keeps : (l : Location) (v : Val) → Mine l → Keeps Any (put l v)
  put_keeps l v m = record {
    by = λ st i.
        ok_map (λ (u : Unit {0}) st'. Written l st st') (λ u st'. Step st st' × Inside st' × Unit {0}) (put l v st)
        (put_ok l v st) (λ u st' w.
        carried st st' i w.many w.linked (λ other lt out. w.apart other (mine_apart other lt out l m)));
  }

  pub peek_keeps : (l : Location) → Keeps Any (peek l)
  peek_keeps l = look_keeps (peek l) (peek_looks l)

  pub read_keeps : (l : Location) → Keeps Any (read l)
  read_keeps l = look_keeps (read l) (read_looks l)

  pub vacate_keeps : (l : Location) → Mine l → Keeps Any (vacate l)
  vacate_keeps l m = then_keeps (peek l) _ (peek_keeps l) (λ v u. put_keeps l (emptied v) m)

  pub move_keeps : (l : Location) → Mine l → Keeps Any (move l)
  move_keeps l m =
      then_keeps (read l) _ (read_keeps l) (λ v u. then_keeps (vacate l) _ (vacate_keeps l m) (λ u' q. pure_keeps v))

  pub hold_keeps : (at : At) (v : Val) → Keeps Mine (hold me at v)
  hold_keeps at v =
      then_keeps (put (root_at me (temporary at.id)) v) _ (put_keeps (root_at me (temporary at.id)) v (inl refl))
      (λ u q. pure_q (root_at me (temporary at.id)) (inl refl))

  with_fits : (act : Activation) (x : ℕ) (s : Slot) → Fits x s → ((y : ℕ) → Fits y (act.slots y)) → (y : ℕ)
      → Fits y (with_at x s act.slots y)
  with_fits act x s f old y = go (x == y) refl
    where
      go : (c : Bool) → (x == y) ≡ c → Fits y (if c then s else act.slots y)
      go true e = subst (λ z. Fits z s) ((Decides-eqb x y).0 e) f
      go false e = old y

  -- a slot of its own is written
  pub set_own_keeps : (x : ℕ) (s : Slot) → Fits x s → Keeps Any (set_slot me x s)
  set_own_keeps x s f =
      record {
        by = λ st i. rw i.here
            (go st i (record i.act { slots = with_at x s i.act.slots }) i.whose i.maker
            (with_fits i.act x s f i.slots));
      }
    where
      go : (st : State) (i : Inside st) (act' : Activation) → act'.body ≡ k → MakerOf act'.maker
          → ((y : ℕ) → Fits y (act'.slots y))
          → Step st (record st { store = slice_set st.store me act' })
          × Inside (record st { store = slice_set st.store me act' }) × Unit {0}
      go st i act' whose maker slots = (
        record {
          linked = ap links (take_set me st.store act');
          apart = λ l lt out. ap (seen_at l) (set_other st.store me l.activation act' (λ e. omega (arith, lt, e)));
        },
        record {
          top = length-set st.store me act' ∙ i.top;
          act = act';
          here = get_set_same st.store me act' i.act i.here;
          whose = whose;
          maker = maker;
          slots = slots;
          closed_ = subst (λ s. Closed program reach grant (links s)) (sym (take_set me st.store act')) i.closed_;
        },
        tt,
      )

  pub below_mine : (l : Location) (ks : List Part) → Mine l → Mine (below l ks)
  below_mine l ks (inl here) = inl here
  below_mine l ks (inr may) = inr (grant.downward l ks may)

  -- ---- what a call is given by this activation: all that it was given, and all of its own

  abbrev pub wide : Grant
  wide = record {
    may = Mine;
    downward = below_mine;
    sees = λ x c m. grant.sees x c m ⊎ ((m ≡ me) × Within program reach types k x c);
  }

  widened : (c : Bool) (a x : ℕ) (s : Slot) → Granted program reach grant c a x s → Granted program reach wide c a x s
  widened c a x absent g = λ e. inr (g e)
  widened c a x (holds v) g = λ e. inr (g e)
  widened c a x (refers l) g = λ e. inr (g e)
  widened c a x (runs k' m) g = ((λ e. inr (g.0 e)), (λ x' c' h. inl (g.1 x' c' h)), g.2)

  own_granted : (c : Bool) (x : ℕ) (s : Slot) → (c ≡ true → reach.borrowed x ≡ false) → Fits x s
      → Granted program reach wide c me x (link s)
  own_granted c x absent nb f = λ e. inl refl
  own_granted c x (holds v) nb f = λ e. inl refl
  own_granted c x (refers l) nb f = λ e. f (nb e)
  own_granted c x (runs k' m) nb f = ((λ e. inl refl), (λ x' c' h. inl (f.0 x' c' h)), f.1)

  closed_wide : (st : State) → Inside st → Closed program reach wide (links st.store)
  closed_wide st i x c m (inl s) =
      let l = i.closed_ x c m s in
      record {
        act = l.act;
        found =
            get_take me (links st.store) m l.act (ap (λ as'. slice_get as' m) (sym (links_take me st.store)) ∙ l.found);
        here = λ e. widened c m x (l.act.slots x) (l.here e);
        outer = λ e. let o = l.outer e in (o.0, o.1, inl o.2);
      }
  closed_wide st i x c m (inr w) = subst (λ n. Leads program reach wide (links st.store) x c n) (sym w.0) (at w.1)
    where
      at : Within program reach types k x c → Leads program reach wide (links st.store) x c me
      at (inl own) = record {
        act = bare i.act;
        found = map_get bare st.store me i.act i.here;
        here = λ e. own_granted c x (i.act.slots x) own.1 (i.slots x);
        outer = λ e. absurd (false_true (sym own.0 ∙ ap (λ n. n == home_of program x) (sym i.whose) ∙ e));
      }
      at (inr outer) = record {
        act = bare i.act;
        found = map_get bare st.store me i.act i.here;
        here = λ e. absurd (false_true (sym e ∙ ap (λ n. n == home_of program x) i.whose ∙ outer.0));
        outer = λ e. let m = i.maker x c outer.1 in (m.0, m.1, inl m.2);
      }

  -- after a call
  came_back : (st st' : State) → Inside st → Framed wide st st' → Step st st' × Inside st' × Unit {0}
  came_back st st' i f =
      carried st st' i f.many f.linked (λ l lt out. f.apart l (omega (arith, lt, i.top)) (λ w. mine_apart l lt out w))

  pub within_writes : (x : ℕ) → Writes program reach types k x → Within program reach types k x true
  within_writes x (inl own) = inl (own.0, λ e. own.1)
  within_writes x (inr outer) = inr outer

  pub within_names : (x : ℕ) → Names program reach types k x → Within program reach types k x false
  within_names x (inl own) = inl (own, λ e. absurd (false_true (sym e)))
  within_names x (inr outer) = inr outer

  unlinked : (c : Bool) (a x : ℕ) (s : Slot) → Granted program reach grant c a x (link s)
      → Granted program reach grant c a x s
  unlinked c a x absent g = g
  unlinked c a x (holds v) g = g
  unlinked c a x (refers l) g = g
  unlinked c a x (runs k' m) g = g

  -- what stands in a slot that was looked up
  abbrev pub Stands : Bool → ℕ → ℕ → Slot → Type 0
  Stands c o x s = ((o ≡ me) × (c ≡ true → reach.borrowed x ≡ false) × Fits x s) ⊎ Granted program reach grant c o x s

  abbrev pub FoundAt : (x : ℕ) (c : Bool) → State → ℕ → State → Type 0
  FoundAt x c st o st' =
      (st' ≡ st) × ((act : Activation) × (slice_get st.store o ≡ Some act) × Stands c o x (act.slots x))

  module _ (run : Call) (level : ℕ) where
    -- outwards, from a variable that may be seen
    found_by : (f m x : ℕ) (c : Bool) (st : State) → Inside st → grant.sees x c m
        → Ok (FoundAt x c st) (declarer types program run me level f (home_of program x) m st)
    found_by zero m x c st i s = tt
    found_by (suc f) m x c st i s =
        let l = i.closed_ x c m s in
        let b = get_map bare (take me st.store) m l.act l.found in
        let is : slice_get st.store m ≡ Some b.0 = get_take me st.store m b.0 b.1 in
        let here : (b.0.body == home_of program x) ≡ true → Granted program reach grant c m x (b.0.slots x) =
        λ e. unlinked c m x (b.0.slots x)
        (subst (λ a. (a.body == home_of program x) ≡ true → Granted program reach grant c m x (a.slots x))
        (sym b.2) l.here e) in
        let outer : (b.0.body == home_of program x) ≡ false → (m' : ℕ) × (b.0.maker ≡ Some m') × grant.sees x c m' =
        subst (λ a. (a.body == home_of program x) ≡ false → (m' : ℕ) × (a.maker ≡ Some m') × grant.sees x c m')
        (sym b.2) l.outer in
        rw is (go (λ m' s'. found_by f m' x c st i s') b.0 is here outer (b.0.body == home_of program x) refl)
      where
        go : ((m' : ℕ) → grant.sees x c m'
            → Ok (FoundAt x c st) (declarer types program run me level f (home_of program x) m' st))
            → (act : Activation) → slice_get st.store m ≡ Some act
            → ((act.body == home_of program x) ≡ true → Granted program reach grant c m x (act.slots x))
            → ((act.body == home_of program x) ≡ false → (m' : ℕ) × (act.maker ≡ Some m') × grant.sees x c m')
            → (own : Bool) → (act.body == home_of program x) ≡ own
            → Ok (FoundAt x c st) (pick own (pure m)
            (or_stray act.maker >>= λ maker. declarer types program run me level f (home_of program x) maker) st)
        go rest act is here outer true e = (refl, (act, is, inr (here e)))
        go rest act is here outer false e = let o = outer e in rw o.1 (rest o.0 o.2)

    -- from the activation at hand
    found_here : (x : ℕ) (c : Bool) (st : State) → Inside st → Within program reach types k x c
        → Ok (FoundAt x c st) (declarer types program run me level (suc me) (home_of program x) me st)
    found_here x c st i (inl own) =
        let mine : (i.act.body == home_of program x) ≡ true = ap (λ n. n == home_of program x) i.whose ∙ own.0 in
        rw (i.here, mine) (refl, (i.act, i.here, inl (refl, own.1, i.slots x)))
    found_here x c st i (inr outer) =
        let other : (i.act.body == home_of program x) ≡ false = ap (λ n. n == home_of program x) i.whose ∙ outer.0 in
        let m = i.maker x c outer.1 in
        rw (i.here, other, m.1) (found_by me m.0 x c st i m.2)

    owner_found : (x : ℕ) (c : Bool) (st : State) → Inside st → Within program reach types k x c
        → Ok (FoundAt x c st) (owner_of types program run me level x st)
    owner_found x c st i w = go (slice_get program.bindings x) refl (found_here x c st i w)
      where
        go : (o : Option Binding) → slice_get program.bindings x ≡ o
            → Ok (FoundAt x c st) (declarer types program run me level (suc me) (home_of program x) me st)
            → Ok (FoundAt x c st) (after (or_stray o st) (λ b. declarer types program run me level (suc me) b.body me))
        go None e h = tt
        go (Some b) e h =
            subst (λ n. Ok (FoundAt x c st) (declarer types program run me level (suc me) n me st)) (ap home_in e) h

    through_keeps : (o : ℕ) (p : Place) (s : Slot) → Stands true o p.binding s
        → Keeps Mine (through types program run me level s o p)
    through_keeps o p absent s = stray_keeps
    through_keeps o p (runs k' m) s = stray_keeps
    through_keeps o p (holds v) (inl own) = pure_q _ (inl own.0)
    through_keeps o p (holds v) (inr g) =
        pure_q _ (below_mine (at_root o p.binding) (map field p.fields) (inr (g refl)))
    through_keeps o p (refers l) (inl own) = pure_q _ (below_mine l (map field p.fields) (own.2 (own.1 refl)))
    through_keeps o p (refers l) (inr g) = pure_q _ (below_mine l (map field p.fields) (inr (g refl)))

    -- a place that may be changed
    pub write_place_keeps : (p : Place) → Writes program reach types k p.binding
        → Keeps Mine (locate types program run me level p)
    write_place_keeps p w = record {
      by = λ st i.
          ok_bind (FoundAt p.binding true st) (λ l st'. Step st st' × Inside st' × Mine l)
          (owner_of types program run me level p.binding st)
          (λ a. slot_at a p.binding >>= λ s. through types program run me level s a p)
          (owner_found p.binding true st i (within_writes p.binding w))
          (λ o st1 f. subst (λ s1. Ok (λ l st'. Step st st' × Inside st' × Mine l)
          ((slot_at o p.binding >>= λ s. through types program run me level s o p) s1)) (sym f.0)
          (rw f.1.1 ((through_keeps o p (f.1.0.slots p.binding) f.1.2).by st i)));
    }

    -- a place that is only read or lent
    binding_looks : (x : ℕ) → Looks (binding_at types program run me level x)
    binding_looks x = or_stray_looks _

    shape_looks : (x : ℕ) → Looks (shape_of_binding types program run me level x)
    shape_looks x = then_looks (binding_at types program run me level x) _ (binding_looks x) (λ b. pure_looks _)

    declarer_looks : (f b a : ℕ) → Looks (declarer types program run me level f b a)
    declarer_looks zero b a = stray_looks
    declarer_looks (suc f) b a =
        then_looks (activation a) _ (activation_looks a)
        (λ act. pick_looks (act.body == b) _ _ (pure_looks a)
        (then_looks (or_stray act.maker) _ (or_stray_looks act.maker) (λ m. declarer_looks f b m)))

    owner_looks : (x : ℕ) → Looks (owner_of types program run me level x)
    owner_looks x =
        then_looks (binding_at types program run me level x) _ (binding_looks x)
        (λ b. declarer_looks (suc me) b.body me)

    through_looks : (s : Slot) (a : ℕ) (p : Place) → Looks (through types program run me level s a p)
    through_looks (holds v) a p = pure_looks _
    through_looks (refers l) a p = pure_looks _
    through_looks absent a p = stray_looks
    through_looks (runs k' m) a p = stray_looks

    locate_looks : (p : Place) → Looks (locate types program run me level p)
    locate_looks p =
        then_looks (owner_of types program run me level p.binding) _ (owner_looks p.binding)
        (λ a. then_looks (slot_at a p.binding) _ (slot_looks a p.binding) (λ s. through_looks s a p))

    pub locate_keeps : (p : Place) → Keeps Any (locate types program run me level p)
    locate_keeps p = look_keeps _ (locate_looks p)

    module _ (frames : CallsFrame program reach run) (tame : TameProgram program reach types) where
      call_keeps : (b : ℕ) (m : Option ℕ) (ps : List Passed) (lv : ℕ)
          → ((body : TBody) → slice_get program.bodies b ≡ Some body → AllFit program reach wide
          (entry_params body.kind body.params) ps) → MakerFits program reach wide b m
          → Keeps Any (run b m ps lv)
      call_keeps b m ps lv fit maker = record {
        by = λ st i.
            ok_map (λ v st'. Framed wide st st') (λ v st'. Step st st' × Inside st' × Unit {0}) (run b m ps lv st)
            (frames wide b m ps lv st (record { closed = closed_wide st i; passed = fit; maker = maker }))
            (λ v st' f. came_back st st' i f);
      }

      -- ---- destruction

      lent_fits : (xs : List ℕ) (l : Location) → Mine l → AllFit program reach wide xs (lent l ∷ [])
      lent_fits [] l m = tt
      lent_fits (x ∷ []) l m = ((λ e. m), tt)
      lent_fits (x ∷ y ∷ ys) l m = ((λ e. m), tt)

      case_present_keeps : (v : Val) {each : ℕ → Act (Unit {0})} → ((n : ℕ) → Keeps Any (each n))
          → Keeps Any (present_case v each)
      case_present_keeps (variant present vs) h = h present
      case_present_keeps hole h = pure_keeps tt
      case_present_keeps (int n) h = stray_keeps
      case_present_keeps (bool b) h = stray_keeps
      case_present_keeps unit h = stray_keeps
      case_present_keeps (struct type i vs) h = stray_keeps

      abbrev after_deinit : ℕ → ℕ → Location → ℕ → ℕ → Act (Unit {0})
      after_deinit t n l lv body =
          run body None (lent l ∷ []) lv >> (note (ended_by_deinit t n) >> (peek l >>= λ v. put l (without_number v)))

      deinit_by : (t n : ℕ) (l : Location) (lv : ℕ) → Mine l → (o : Option ℕ) → deinit_of program t ≡ o
          → Keeps Any (or_stray o >>= after_deinit t n l lv)
      deinit_by t n l lv m None e = record { by = λ st i. tt }
      deinit_by t n l lv m (Some b) e =
          let h : Keeps Any (after_deinit t n l lv b) =
          next_i (call_keeps b None (lent l ∷ []) lv (λ body e'. lent_fits (entry_params body.kind body.params) l m)
          (tame.deinits t b e)) (next_i (note_keeps _) (then_i (peek_keeps l) (λ v u. put_keeps l _ m))) in
          record { by = λ st i. h.by st i }

      deinit_keeps : (t n : ℕ) (l : Location) (lv : ℕ) → Mine l → Keeps Any (run_deinit program run t n l lv)
      deinit_keeps t n l lv m = deinit_by t n l lv m (deinit_of program t) refl

      tracked_keeps : (v : Val) (l : Location) (lv : ℕ) {p : Act (Unit {0})} → Mine l → Keeps Any p
          → Keeps Any (destroy_tracked program run v l lv p)
      tracked_keeps (struct type (Some i) vs) l lv m h =
          pick_i (all_whole vs) (next_i (next_i (next_i (level_keeps _) (deinit_keeps type i l _ m)) h)
          (put_keeps l hole m)) err_keeps
      tracked_keeps hole l lv m h = pure_keeps tt
      tracked_keeps (struct type None vs) l lv m h = stray_keeps
      tracked_keeps (int n) l lv m h = stray_keeps
      tracked_keeps (bool b) l lv m h = stray_keeps
      tracked_keeps unit l lv m h = stray_keeps
      tracked_keeps (variant present vs) l lv m h = stray_keeps

      mutual
        destroy_keeps : (s : Shape) (l : Location) (lv : ℕ) → Mine l → Keeps Any (destroy program run s l lv)
        destroy_keeps shape.number l lv m = pure_keeps tt
        destroy_keeps shape.truth l lv m = pure_keeps tt
        destroy_keeps shape.no_value l lv m = pure_keeps tt
        destroy_keeps shape.closure l lv m = pure_keeps tt
        destroy_keeps (shape.struct head fields) l lv m =
            pick_i head.has_deinit
            (then_i (peek_keeps l) (λ v u. tracked_keeps v l lv m (parts_keeps field 0 fields l (lv + 1) m)))
            (parts_keeps field 0 fields l lv m)
        destroy_keeps (shape.enum head cases) l lv m =
            pick_i (one_case_holds_tracked cases)
            (then_i (peek_keeps l) (λ v u. case_present_keeps v (λ present.
            next_i (next_i (level_keeps _) (case_keeps cases present present l (lv + 1) m)) (put_keeps l hole m))))
            (pure_keeps tt)

        parts_keeps : (part : ℕ → Part) (n : ℕ) (ss : Shapes) (l : Location) (lv : ℕ) → Mine l
            → Keeps Any (destroy_parts program run part n ss l lv)
        parts_keeps part n no_shapes l lv m = pure_keeps tt
        parts_keeps part n (shape.shape s ss) l lv m =
            next_i (destroy_keeps s (below l (part n ∷ [])) lv (below_mine l (part n ∷ []) m))
            (parts_keeps part (suc n) ss l lv m)

        case_keeps : (cs : Payloads) (n present : ℕ) (l : Location) (lv : ℕ) → Mine l
            → Keeps Any (destroy_case program run cs n present l lv)
        case_keeps no_payloads n present l lv m = stray_keeps
        case_keeps (payloads ss cs) zero present l lv m = parts_keeps (payload present) 0 ss l lv m
        case_keeps (payloads ss cs) (suc n) present l lv m = case_keeps cs n present l lv m

      end_value_keeps : (s : Shape) (l : Location) (lv : ℕ) → Mine l → Keeps Any (end_value program run s l lv)
      end_value_keeps s l lv m = next_i (destroy_keeps s l lv m) (vacate_keeps l m)

      mutual
        end_rest_keeps : (p : TPat) (s : Shape) (l : Location) (lv : ℕ) → Mine l
            → Keeps Any (end_rest program run p s l lv)
        end_rest_keeps any s l lv m = end_value_keeps s l lv m
        end_rest_keeps (bind x) s l lv m = pure_keeps tt
        end_rest_keeps (of_case c ps) s l lv m = end_payloads_keeps c 0 ps (case_shapes s c) l lv m
        end_rest_keeps (of_number n) s l lv m = pure_keeps tt
        end_rest_keeps (of_truth b) s l lv m = pure_keeps tt

        end_payloads_keeps : (c n : ℕ) (ps : TPats) (ss : Shapes) (l : Location) (lv : ℕ) → Mine l
            → Keeps Any (end_payloads program run c n ps ss l lv)
        end_payloads_keeps c n no_pats ss l lv m = pure_keeps tt
        end_payloads_keeps c n (pat p ps) no_shapes l lv m = stray_keeps
        end_payloads_keeps c n (pat p ps) (shape.shape s ss) l lv m = next_i
            (end_rest_keeps p s (below l (payload c n ∷ [])) lv (below_mine l (payload c n ∷ []) m))
            (end_payloads_keeps c (suc n) ps ss l lv m)

      -- ---- what is passed

      abbrev TakesLike : TExp → ℕ → Type 0
      TakesLike (closure at k0) k' = k' ≡ k0
      TakesLike (function at y) k' = Takes program reach k' (reach.formals y)
      TakesLike (parenthesized at e) k' = TakesLike e k'
      TakesLike e k' = ⊥

      abbrev Gave1 : Passing → TExp → Passed → Type 0
      Gave1 q e (given l) = Mine l
      Gave1 q e (lent l) = lends q ≡ false → Mine l
      Gave1 q e (lent_temporary s l) = Mine l
      Gave1 q e (closed k' m) = (is_closure q ≡ true) × Calls program reach wide k' m × TakesLike e k'

      abbrev Gave : TExps → List Passing → List Passed → Type 0
      Gave no_exps qs [] = Unit {0}
      Gave (exp e es) qs [] = Unit {0}
      Gave no_exps qs (p ∷ ps) = ⊥
      Gave (exp e es) [] (p ∷ ps) = ⊥
      Gave (exp e es) (q ∷ qs) (p ∷ ps) = Gave1 q e p × Gave es qs ps

      taken_fits : (x : ℕ) (e : TExp) (k' : ℕ) → TakenBy program reach x e → TakesLike e k'
          → Takes program reach k' (reach.formals x)
      taken_fits x (closure at k0) k' t is = subst (λ n. Takes program reach n (reach.formals x)) (sym is) t
      taken_fits x (function at y) k' t is = subst (Takes program reach k') t is
      taken_fits x (parenthesized at e) k' t is = taken_fits x e k' t is
      taken_fits x _ k' t is = absurd is

      fits_one : (x : ℕ) (q : Passing) (e : TExp) (p : Passed) → (reach.borrowed x ≡ false → lends q ≡ false)
          → TakenBy program reach x e → Gave1 q e p → PassedFits program reach wide x p
      fits_one x q e (given l) s t g = g
      fits_one x q e (lent l) s t g = λ i. g (s i)
      fits_one x q e (lent_temporary sh l) s t g = λ i. g
      fits_one x q e (closed k' m) s t g = (g.1, taken_fits x e k' t g.2)

      all_fit : (xs : List ℕ) (es : TExps) (qs : List Passing) (ps : List Passed) → SuitsArgs program reach xs es qs
          → Gave es qs ps → AllFit program reach wide xs ps
      all_fit [] es qs [] s g = tt
      all_fit [] es qs (p ∷ ps) s g = tt
      all_fit (x ∷ xs) es qs [] s g = tt
      all_fit (x ∷ xs) no_exps qs (p ∷ ps) s g = absurd g
      all_fit (x ∷ xs) (exp e es) [] (p ∷ ps) s g = absurd g
      all_fit (x ∷ xs) (exp e es) (q ∷ qs) (p ∷ ps) s g =
          (fits_one x q e p s.0.0 s.0.1 g.0, all_fit xs es qs ps s.1 g.1)

      -- the same for a closure, to which no closure is passed
      fits_plain : (x : ℕ) (q : Passing) (e : TExp) (p : Passed) → (reach.borrowed x ≡ false → lends q ≡ false)
          → is_closure q ≡ false → Gave1 q e p → PassedFits program reach wide x p
      fits_plain x q e (given l) s n g = g
      fits_plain x q e (lent l) s n g = λ i. g (s i)
      fits_plain x q e (lent_temporary sh l) s n g = λ i. g
      fits_plain x q e (closed k' m) s n g = absurd (false_true (sym g.0 ∙ n))

      plain_fit : (xs : List ℕ) (es : TExps) (qs : List Passing) (ps : List Passed) → Suits program reach xs qs
          → Gave es qs ps → AllFit program reach wide xs ps
      plain_fit [] es qs [] s g = tt
      plain_fit [] es qs (p ∷ ps) s g = tt
      plain_fit (x ∷ xs) es qs [] s g = tt
      plain_fit (x ∷ xs) no_exps qs (p ∷ ps) s g = absurd g
      plain_fit (x ∷ xs) (exp e es) [] (p ∷ ps) s g = absurd g
      plain_fit (x ∷ xs) (exp e es) (q ∷ qs) (p ∷ ps) s g =
          (fits_plain x q e p s.0.0 s.0.1 g.0, plain_fit xs es qs ps s.1 g.1)

      -- what waits in this activation
      abbrev Own1 : Passed → Type 0
      Own1 (given l) = Mine l
      Own1 (lent_temporary s l) = Mine l
      Own1 (lent l) = Unit {0}
      Own1 (closed k' m) = Unit {0}

      abbrev Owns : List Passed → Type 0
      Owns [] = Unit {0}
      Owns (p ∷ ps) = Own1 p × Owns ps

      own_one : (q : Passing) (e : TExp) (p : Passed) → Gave1 q e p → Own1 p
      own_one q e (given l) g = g
      own_one q e (lent_temporary s l) g = g
      own_one q e (lent l) g = tt
      own_one q e (closed k' m) g = tt

      own_all : (es : TExps) (qs : List Passing) (ps : List Passed) → Gave es qs ps → Owns ps
      own_all es qs [] g = tt
      own_all no_exps qs (p ∷ ps) g = absurd g
      own_all (exp e es) [] (p ∷ ps) g = absurd g
      own_all (exp e es) (q ∷ qs) (p ∷ ps) g = (own_one q e p g.0, own_all es qs ps g.1)

      use_keeps : (p : TypedPath) (b : Bool) → is_copyable types p.at.ty ≡ b
          → (is_copyable types p.at.ty ≡ false → Writes program reach types k p.place.binding)
          → Keeps Any (locate types program run me level p.place >>= λ l. pick b (read l) (move l))
      use_keeps p true e w = then_i (locate_keeps p.place) (λ l u. read_keeps l)
      use_keeps p false e w = then_i (write_place_keeps p.place (w e)) (λ l m. move_keeps l m)

      take_keeps : (p : TypedPath) → (is_copyable types p.at.ty ≡ false → Writes program reach types k p.place.binding)
          → Keeps Any (take_value types program run me level p)
      take_keeps p w = use_keeps p (is_copyable types p.at.ty) refl w

      abbrev Clos : ℕ → Passed → Type 0
      Clos x (closed k' m) = Calls program reach wide k' m × Takes program reach k' (reach.formals x)
      Clos x (given l) = ⊥
      Clos x (lent l) = ⊥
      Clos x (lent_temporary s l) = ⊥

      closure_in_keeps : (o x : ℕ) (s : Slot) → Stands false o x s
          → Keeps (Clos x) (closure_in types program run me level s)
      closure_in_keeps o x (runs b m) (inl own) = pure_q (closed b m) ((λ x' c' h. inl (own.2.0 x' c' h)), own.2.1)
      closure_in_keeps o x (runs b m) (inr g) = pure_q (closed b m) ((λ x' c' h. inl (g.1 x' c' h)), g.2)
      closure_in_keeps o x absent s = stray_keeps
      closure_in_keeps o x (holds v) s = stray_keeps
      closure_in_keeps o x (refers l) s = stray_keeps

      closure_of_keeps : (x : ℕ) → Names program reach types k x
          → Keeps (Clos x) (closure_of types program run me level x)
      closure_of_keeps x n = record {
        by = λ st i.
            ok_bind (FoundAt x false st) (λ p st'. Step st st' × Inside st' × Clos x p)
            (owner_of types program run me level x st) (λ a. slot_at a x >>= closure_in types program run me level)
            (owner_found x false st i (within_names x n))
            (λ o st1 f. subst (λ s1. Ok (λ p st'. Step st st' × Inside st' × Clos x p)
            ((slot_at o x >>= closure_in types program run me level) s1)) (sym f.0)
            (rw f.1.1 ((closure_in_keeps o x (f.1.0.slots x) f.1.2).by st i)));
      }

      give_keeps : (q : Passing) (e : TExp) (ev : Act Val) → Keeps Any ev
          → Keeps (Gave1 q e) (give types program run me level e ev)
      give_keeps q e ev h = then_i (then_i h (λ v u. hold_keeps (holder e) v)) (λ l m. pure_q (given l) m)

      borrowed_keeps : (o : Option TypedPath) (e : TExp) (ev : Act Val) (T : Type 0) → (T → Keeps Any ev)
          → BorrowOk program reach types k o T
          → Keeps (Gave1 passing.Borrow e) (pass_borrowed types program run me level o e ev)
      borrowed_keeps (Some p) e ev T h w =
          then_i (locate_keeps p.place) (λ l u. pure_q (lent l) (λ i. absurd (false_true i)))
      borrowed_keeps None e ev T h w =
          then_i (then_i (h w) (λ v u. hold_keeps (holder e) v)) (λ l m. pure_q (lent_temporary _ l) m)

      place_keeps : (e : TExp) (p : TypedPath) → Writes program reach types k p.place.binding
          → Keeps (Gave1 passing.Inout e) (lend_place types program run me level p)
      place_keeps e p w = then_i (write_place_keeps p.place w) (λ l m. pure_q (lent l) (λ i. m))

      receiver_keeps : (e : TExp) (o : Option TypedPath) → WritesPath program reach types k o
          → Keeps (Gave1 passing.Inout e) (pass_receiver types program run me level o)
      receiver_keeps e (Some p) w = place_keeps e p w
      receiver_keeps e None w = stray_keeps

      inout_keeps : (e : TExp) → InoutOk program reach types k e
          → Keeps (Gave1 passing.Inout e) (pass_inout types program run me level e)
      inout_keeps (address p) w = place_keeps (address p) p w
      inout_keeps e w = receiver_keeps e (path_of e) w

      named_one : (at : At) (x : ℕ) (p : Passed) → Clos x p → Gave1 passing.Closure (function at x) p
      named_one at x (closed k' m) c = (refl, c.0, c.1)
      named_one at x (given l) c = absurd c
      named_one at x (lent l) c = absurd c
      named_one at x (lent_temporary s l) c = absurd c

      inside_one : (at : At) (e : TExp) (p : Passed) → Gave1 passing.Closure e p
          → Gave1 passing.Closure (parenthesized at e) p
      inside_one at e (closed k' m) c = c
      inside_one at e (given l) c = c
      inside_one at e (lent l) c = c
      inside_one at e (lent_temporary s l) c = c

      by_closure_keeps : (e : TExp) → ClosureOk program reach types k e
          → Keeps (Gave1 passing.Closure e) (pass_closure types program run me level e)
      by_closure_keeps (closure at k') w = pure_q (closed k' me) (refl, (λ x c h. inr (refl, w x c h)), refl)
      by_closure_keeps (function at x) w =
          weak_keeps (closure_of types program run me level x) (closure_of_keeps x w) (λ p c. named_one at x p c)
      by_closure_keeps (parenthesized at e) w =
          weak_keeps (pass_closure types program run me level e) (by_closure_keeps e w) (λ p c. inside_one at e p c)
      by_closure_keeps _ w = stray_keeps

      pass_keeps : (q : Passing) (e : TExp) (ev : Act Val) (T : Type 0) → (T → Keeps Any ev)
          → TamePass program reach types k q e T → Keeps (Gave1 q e) (pass types program run me level q e ev)
      pass_keeps passing.ByValue e ev T h w = give_keeps passing.ByValue e ev (h w)
      pass_keeps passing.Consume e ev T h w = give_keeps passing.Consume e ev (h w)
      pass_keeps passing.Borrow e ev T h w = borrowed_keeps (path_of e) e ev T h w
      pass_keeps passing.Inout e ev T h w = inout_keeps e w
      pass_keeps passing.Closure e ev T h w = by_closure_keeps e w

      note_use_keeps : (v : Val) → Keeps Any (note_use v)
      note_use_keeps (struct type (Some i) vs) = note_keeps (used type i)
      note_use_keeps (struct type None vs) = pure_keeps tt
      note_use_keeps (variant present vs) = pure_keeps tt
      note_use_keeps (int n) = pure_keeps tt
      note_use_keeps (bool b) = pure_keeps tt
      note_use_keeps unit = pure_keeps tt
      note_use_keeps hole = pure_keeps tt

      lend_keeps : (p : Passed) → Keeps Any (lend p)
      lend_keeps (lent l) = then_i (read_keeps l) (λ v u. note_use_keeps v)
      lend_keeps (lent_temporary s l) = then_i (read_keeps l) (λ v u. note_use_keeps v)
      lend_keeps (given l) = pure_keeps tt
      lend_keeps (closed body maker) = pure_keeps tt

      lend_all_keeps : (ps : List Passed) → Keeps Any (lend_all ps)
      lend_all_keeps [] = pure_keeps tt
      lend_all_keeps (p ∷ ps) = next_i (lend_keeps p) (lend_all_keeps ps)

      value_given_keeps : (p : Passed) → Own1 p → Keeps Any (value_given p)
      value_given_keeps (given l) m = move_keeps l m
      value_given_keeps (lent l) m = stray_keeps
      value_given_keeps (lent_temporary s l) m = stray_keeps
      value_given_keeps (closed body maker) m = stray_keeps

      values_given_keeps : (ps : List Passed) → Owns ps → Keeps Any (values_given ps)
      values_given_keeps [] m = pure_keeps _
      values_given_keeps (p ∷ ps) m =
          then_i (value_given_keeps p m.0) (λ v u. then_i (values_given_keeps ps m.1) (λ vs u'. pure_keeps _))

      item_bytes_keeps : (o : Option (List ℕ)) {p : Act Val} → Keeps Any p → Keeps Any (item_bytes o p)
      item_bytes_keeps (Some bytes) h = pure_keeps bytes
      item_bytes_keeps None h = then_i h (λ v u. look_keeps _ (spelled_looks v))

      construct_keeps : (b : Bool) (type : ℕ) (vs : Vals) → Keeps Any (construct b type vs)
      construct_keeps true type vs = born_keeps type vs
      construct_keeps false type vs = pure_keeps _

      call_closure_keeps : (x : ℕ) (c : Passed) (es : TExps) (qs : List Passing) (ps : List Passed) → Clos x c
          → qs ≡ reach.formals x → Gave es qs ps → Keeps Any (call_closure types program run me level c ps)
      call_closure_keeps x (closed b m) es qs ps c is g =
          call_keeps b (Some m) ps level
          (λ body e. plain_fit (entry_params body.kind body.params) es qs ps
          (subst (Suits program reach (entry_params body.kind body.params)) (sym is) (c.1 body e)) g) c.0
      call_closure_keeps x (given l) es qs ps c is g = absurd c
      call_closure_keeps x (lent l) es qs ps c is g = absurd c
      call_closure_keeps x (lent_temporary s l) es qs ps c is g = absurd c

      -- a function, a method or an `init`
      declared_keeps : (b : ℕ) (es : TExps) (qs : List Passing) (ps : List Passed)
          → CalledWith program reach b es qs → Gave es qs ps → Keeps Any (run b None ps level)
      declared_keeps b es qs ps w g =
          call_keeps b None ps level
          (λ body e. all_fit (entry_params body.kind body.params) es qs ps (w.1 body e) g) w.0

      apply_keeps : (to : Target) (es : TExps) (qs : List Passing) (ps : List Passed)
          → TameTarget program reach types k to es qs → Gave es qs ps
          → Keeps Any (apply types program run me level to ps)
      apply_keeps (target.Function b) es qs ps w g = declared_keeps b es qs ps w g
      apply_keeps (target.Method b) es qs ps w g = declared_keeps b es qs ps w g
      apply_keeps (target.Init b) es qs ps w g = declared_keeps b es qs ps w g
      apply_keeps (target.Memberwise t) es qs ps w g =
          then_i (values_given_keeps ps (own_all es qs ps g)) (λ vs u. construct_keeps _ t vs)
      apply_keeps (target.Case t present) es qs ps w g =
          then_i (values_given_keeps ps (own_all es qs ps g)) (λ vs u. pure_keeps _)
      apply_keeps (target.Closure x) es qs ps w g =
          then_i (closure_of_keeps x w.0) (λ c q. call_closure_keeps x c es qs ps q w.1 g)
      apply_keeps target.Print es qs ps w g = stray_keeps
      apply_keeps target.ReadInt es qs [] w g = input_keeps
      apply_keeps target.ReadInt es qs (p ∷ ps) w g = stray_keeps

      end_lent_keeps : (ps : List Passed) → Owns ps → Keeps Any (end_lent types program run me level ps)
      end_lent_keeps [] m = pure_keeps tt
      end_lent_keeps (lent_temporary s l ∷ ps) m = next_i (end_lent_keeps ps m.1) (end_value_keeps s l level m.0)
      end_lent_keeps (given l ∷ ps) m = end_lent_keeps ps m.1
      end_lent_keeps (lent l ∷ ps) m = end_lent_keeps ps m.1
      end_lent_keeps (closed body maker ∷ ps) m = end_lent_keeps ps m.1

      connected_keeps : (o : Logic) (b : Bool) {p : Act Val} → Keeps Any p → Keeps Any (connected o b p)
      connected_keeps connective.And true h = h
      connected_keeps connective.And false h = pure_keeps _
      connected_keeps connective.Or true h = pure_keeps _
      connected_keeps connective.Or false h = h

      -- ---- expressions

      part_of_keeps : (b : Bool) (at : At) (e : TExp) (n : ℕ) {p : Act Val} → Keeps Any p
          → Keeps Any (part_of types program run me level b at e n p)
      part_of_keeps true at e n h = then_i h (λ v u. look_keeps _ (or_found_looks (child v (field n))))
      part_of_keeps false at e n h =
          then_i (then_i h (λ v u. hold_keeps (holder e) v)) (λ l m.
          then_i (then_i (read_keeps (below l (field n ∷ []))) (λ v u. hold_keeps at v)) (λ to m'.
          next_i (end_value_keeps (types.shape (node_of e).ty) l level m) (move_keeps to m')))

      mutual
        eval_keeps : (e : TExp) → TameExp program reach types k e → Keeps Any (eval types program run me level e)
        eval_keeps (number at n) w = pure_keeps _
        eval_keeps (text at bytes) w = stray_keeps
        eval_keeps (truth at b) w = pure_keeps _
        eval_keeps (path p) w = take_keeps p w
        eval_keeps (parenthesized at e) w = eval_keeps e w
        eval_keeps (consumed at p) w = then_i (write_place_keeps p.place w) (λ l m. move_keeps l m)
        eval_keeps (negated at mark e) w =
            then_i (then_i (eval_keeps e w) (λ v u. look_keeps _ (as_int_looks v)))
            (λ n u. look_keeps _ (as_val_looks _ (computed_looks arith_.Neg mark.start (pos 0) n)))
        eval_keeps (inverted at e) w =
            then_i (then_i (eval_keeps e w) (λ v u. look_keeps _ (as_bool_looks v))) (λ b u. pure_keeps _)
        eval_keeps (arithmetic at o mark a b) w =
            then_i (then_i (eval_keeps a w.0) (λ v u. look_keeps _ (as_int_looks v)))
            (λ x u. then_i (then_i (eval_keeps b w.1) (λ v u'. look_keeps _ (as_int_looks v)))
            (λ y u'. look_keeps _ (as_val_looks _ (computed_looks o mark.start x y))))
        eval_keeps (wrapping at o a b) w =
            then_i (then_i (eval_keeps a w.0) (λ v u. look_keeps _ (as_int_looks v)))
            (λ x u. then_i (then_i (eval_keeps b w.1) (λ v u'. look_keeps _ (as_int_looks v)))
            (λ y u'. look_keeps _ (as_val_looks _ (wrapped_looks o x y))))
        eval_keeps (compared at o a b) w =
            then_i (eval_keeps a w.0) (λ x u. then_i (eval_keeps b w.1) (λ y u'. look_keeps _ (compare_looks o x y)))
        eval_keeps (logic at o a b) w =
            then_i (then_i (eval_keeps a w.0) (λ v u. look_keeps _ (as_bool_looks v)))
            (λ x u. connected_keeps o x
            (then_i (then_i (eval_keeps b w.1) (λ v u'. look_keeps _ (as_bool_looks v))) (λ y u'. pure_keeps _)))
        eval_keeps (choice at c a b) w =
            then_i (then_i (eval_keeps c w.0) (λ v u. look_keeps _ (as_bool_looks v)))
            (λ x u. pick_i x (eval_keeps a w.1) (eval_keeps b w.2))
        eval_keeps (member at e n) w = part_of_keeps (is_copyable types (node_of e).ty) at e n (eval_keeps e w)
        eval_keeps (call at target.Print es qs) w =
            then_i (items_keeps es w) (λ bytes u. next_i (log_keeps _) (pure_keeps unit))
        eval_keeps (call at to es qs) w =
            then_i (eval_all_keeps es qs w.0) (λ ps g.
            then_i (then_i (next_i (lend_all_keeps ps) (apply_keeps to es qs ps w.1 g)) (λ v u. hold_keeps at v))
            (λ l m. next_i (end_lent_keeps ps (own_all es qs ps g)) (move_keeps l m)))
        eval_keeps (address p) w = stray_keeps
        eval_keeps (closure at n) w = stray_keeps
        eval_keeps (function at x) w = stray_keeps

        eval_all_keeps : (es : TExps) (qs : List Passing) → TameArgs program reach types k es qs
            → Keeps (Gave es qs) (eval_all types program run me level es qs)
        eval_all_keeps no_exps [] w = pure_q [] tt
        eval_all_keeps no_exps (q ∷ qs) w = stray_keeps
        eval_all_keeps (exp e es) [] w = stray_keeps
        eval_all_keeps (exp e es) (q ∷ qs) w =
            then_i
            (pass_keeps q e (eval types program run me level e) (TameExp program reach types k e) (eval_keeps e) w.0)
            (λ p g. then_i (eval_all_keeps es qs w.1) (λ ps gs. pure_q (p ∷ ps) (g, gs)))

        items_keeps : (es : TExps) → TameItems program reach types k es
            → Keeps Any (items types program run me level es)
        items_keeps no_exps w = pure_keeps []
        items_keeps (exp e es) w =
            then_i (item_bytes_keeps (text_of e) (eval_keeps e w.0))
            (λ first u. then_i (items_keeps es w.1) (λ rest u'. pure_keeps _))

      test_keeps : (e : TExp) → TameExp program reach types k e → Keeps Any (test types program run me level e)
      test_keeps e w = then_i (eval_keeps e w) (λ v u. look_keeps _ (as_bool_looks v))

      drop_value_keeps : (e : TExp) → TameExp program reach types k e
          → Keeps Any (drop_value types program run me level e)
      drop_value_keeps e w =
          then_i (then_i (eval_keeps e w) (λ v u. hold_keeps (holder e) v))
          (λ l m. end_value_keeps (types.shape (node_of e).ty) l level m)

      assign_value_keeps : (p : TypedPath) (e : TExp) → TameExp program reach types k e
          → Writes program reach types k p.place.binding → Keeps Any (assign_value types program run me level p e)
      assign_value_keeps p e w wp =
          then_i (then_i (eval_keeps e w) (λ v u. hold_keeps (holder e) v)) (λ from mf.
          then_i (write_place_keeps p.place wp)
          (λ l m. then_i (next_i (end_value_keeps (types.shape p.at.ty) l level m) (move_keeps from mf))
          (λ v u. put_keeps l v m)))

      forget_keeps : (v : Val) → Keeps Any (forget v)
      forget_keeps (struct type (Some i) vs) = note_keeps _
      forget_keeps (struct type None vs) = stray_keeps
      forget_keeps (variant present vs) = stray_keeps
      forget_keeps (int n) = stray_keeps
      forget_keeps (bool b) = stray_keeps
      forget_keeps unit = stray_keeps
      forget_keeps hole = stray_keeps

      -- ---- scopes and clauses

      end_slot_keeps : (x : ℕ) (s : Slot) → Keeps Any (end_slot types program run me level x s)
      end_slot_keeps x absent = pure_keeps tt
      end_slot_keeps x (holds v) =
          then_i (look_keeps _ (shape_looks x)) (λ s u. end_value_keeps s (root_at me (binding x)) level (inl refl))
      end_slot_keeps x (refers l) = pure_keeps tt
      end_slot_keeps x (runs body maker) = pure_keeps tt

      end_all_keeps : (xs : List ℕ) → Keeps Any (end_all types program run me level xs)
      end_all_keeps [] = pure_keeps tt
      end_all_keeps (x ∷ xs) =
          then_i (next_i (end_all_keeps xs) (look_keeps _ (slot_looks me x))) (λ s u. end_slot_keeps x s)

      leave_scope_keeps : (xs : List ℕ) (f : Flow) → Keeps Any (leave_scope types program run me level xs f)
      leave_scope_keeps xs f = next_i (end_all_keeps (ended program.bindings xs)) (pure_keeps f)

      subject_keeps : (b : Bool) (p : Option TypedPath) (e : TExp)
          → (shows b p ≡ false → TameExp program reach types k e)
          → Keeps (λ l. shows b p ≡ false → Mine l) (subject_at types program run me level b p e)
      subject_keeps false (Some p) e w =
          then_i (locate_keeps p.place) (λ l u. next_i (read_keeps l) (pure_q l (λ i. absurd (false_true i))))
      subject_keeps false None e w =
          then_i (eval_keeps e (w refl))
          (λ v u. weak_keeps (hold me (holder e) v) (hold_keeps (holder e) v) (λ l m i. m))
      subject_keeps true p e w =
          then_i (eval_keeps e (w refl))
          (λ v u. weak_keeps (hold me (holder e) v) (hold_keeps (holder e) v) (λ l m i. m))

      tame_subject : (b : Bool) (T : Type 0) → TameSubject program reach types k b T → b ≡ false → T
      tame_subject true T w e = absurd (false_true e)
      tame_subject false T w e = w

      twice_shown : (b : Bool) (p : Option TypedPath) → (not b && not (is_path p)) ≡ true → shows b p ≡ false
      twice_shown true p e = refl
      twice_shown false None e = refl
      twice_shown false (Some p) e = absurd (false_true (sym e))

      -- each binding takes a copy, if it takes anything
      abbrev AllCopy : List (ℕ × List Part) → Type 0
      AllCopy [] = Unit {0}
      AllCopy (b ∷ bs) = Copies program reach types k b.0 × AllCopy bs

      all_copy_append : (as' bs : List (ℕ × List Part)) → AllCopy as' → AllCopy bs → AllCopy (as' ++ bs)
      all_copy_append [] bs h k' = k'
      all_copy_append (a ∷ as') bs h k' = (h.0, all_copy_append as' bs h.1 k')

      mutual
        bound_copy : (p : TPat) (way : List Part) → ShownPat program reach types k p → AllCopy (bound_parts p way)
        bound_copy any way w = tt
        bound_copy (bind x) way w = (w, tt)
        bound_copy (of_case c ps) way w = payloads_copy c 0 ps way w
        bound_copy (of_number n) way w = tt
        bound_copy (of_truth b) way w = tt

        payloads_copy : (c n : ℕ) (ps : TPats) (way : List Part) → ShownPats program reach types k ps
            → AllCopy (payload_parts c n ps way)
        payloads_copy c n no_pats way w = tt
        payloads_copy c n (pat p ps) way w =
            all_copy_append (bound_parts p (way ++ payload c n ∷ [])) (payload_parts c (suc n) ps way)
            (bound_copy p (way ++ payload c n ∷ []) w.0) (payloads_copy c (suc n) ps way w.1)

      abbrev OptShown : Option TPat → Type 0
      OptShown None = Unit {0}
      OptShown (Some p) = ShownPat program reach types k p

      abbrev FoundShown : Found (Option TPat) → Type 0
      FoundShown (found o) = OptShown o
      FoundShown hollow = Unit {0}
      FoundShown nowhere = Unit {0}

      this_shown : (p : TPat) (o : Found Bool) (rest : Found (Option TPat)) → ShownPat program reach types k p
          → FoundShown rest → FoundShown (and_then o (λ b. this_or p b rest))
      this_shown p (found true) rest w r = w
      this_shown p (found false) rest w r = r
      this_shown p hollow rest w r = tt
      this_shown p nowhere rest w r = tt

      first_shown : (ps : TPats) (v : Val) → ShownPats program reach types k ps → FoundShown (first_match ps v)
      first_shown no_pats v w = tt
      first_shown (pat p ps) v w = this_shown p (matches p v) (first_match ps v) w.0 (first_shown ps v w.1)

      chosen_shown : (head : TWhen) (v : Val) → ShownHead program reach types k head → FoundShown (chosen head v)
      chosen_shown (case_of ps) v w = first_shown ps v w
      chosen_shown (case_where p guard) v w = first_shown (pat p no_pats) v (w, tt)
      chosen_shown default v w = tt

      or_found_q : (Q : Option TPat → Type 0) (o : Found (Option TPat)) → ((a : Option TPat) → o ≡ found a → Q a)
          → Keeps Q (or_found o)
      or_found_q Q (found a) h = pure_q a (h a refl)
      or_found_q Q hollow h = err_keeps
      or_found_q Q nowhere h = stray_keeps

      chosen_keeps : (shown : Bool) (head : TWhen) (v : Val) → (shown ≡ true → ShownHead program reach types k head)
          → Keeps (λ o. shown ≡ true → OptShown o) (or_found (chosen head v))
      chosen_keeps shown head v w =
          or_found_q (λ o. shown ≡ true → OptShown o) (chosen head v)
          (λ a is e. subst FoundShown is (chosen_shown head v (w e)))

      bind_as_keeps : (md : Mode) (b : Bool) (x : ℕ) (l : Location)
          → (md ≡ mode.PatternBorrowed → reach.borrowed x ≡ true) → (md ≡ mode.PatternOwned → b ≡ false → Mine l)
          → Keeps Any (bind_as types program run me level md b x l)
      bind_as_keeps mode.PatternBorrowed b x l s m =
          set_own_keeps x (refers l) (λ e. absurd (false_true (sym (s refl) ∙ e)))
      bind_as_keeps mode.PatternOwned true x l s m = then_i (read_keeps l) (λ v u. set_own_keeps x (holds v) tt)
      bind_as_keeps mode.PatternOwned false x l s m =
          then_i (move_keeps l (m refl refl)) (λ v u. set_own_keeps x (holds v) tt)
      bind_as_keeps _ b x l s m = stray_keeps

      bind_by : (x : ℕ) (l : Location) → Mine l ⊎ Copies program reach types k x → (o : Option Binding)
          → slice_get program.bindings x ≡ o
          → Keeps Any (or_stray o >>= λ b. bind_as types program run me level b.mode (is_copyable types b.ty) x l)
      bind_by x l h None e = record { by = λ st i. tt }
      bind_by x l h (Some b) e =
          let hb : Keeps Any (bind_as types program run me level b.mode (is_copyable types b.ty) x l) =
          bind_as_keeps b.mode (is_copyable types b.ty) x l (tame.patterns x b e) (λ om nc. own h om nc) in
          record { by = λ st i. hb.by st i }
        where
          own : Mine l ⊎ Copies program reach types k x → b.mode ≡ mode.PatternOwned → is_copyable types b.ty ≡ false
              → Mine l
          own (inl m) om nc = m
          own (inr c) om nc = absurd (false_true (sym (c b e om) ∙ nc))

      bind_part_keeps : (x : ℕ) (l : Location) → Mine l ⊎ Copies program reach types k x
          → Keeps Any (bind_part types program run me level x l)
      bind_part_keeps x l h = bind_by x l h (slice_get program.bindings x) refl

      bind_all_keeps : (bs : List (ℕ × List Part)) (l : Location) → Mine l ⊎ AllCopy bs
          → Keeps Any (bind_all types program run me level bs l)
      bind_all_keeps [] l h = pure_keeps tt
      bind_all_keeps (b ∷ bs) l (inl m) =
          next_i (bind_part_keeps b.0 (below l b.1) (inl (below_mine l b.1 m))) (bind_all_keeps bs l (inl m))
      bind_all_keeps (b ∷ bs) l (inr c) =
          next_i (bind_part_keeps b.0 (below l b.1) (inr c.0)) (bind_all_keeps bs l (inr c.1))

      late_keeps : (twice : Bool) (head : TWhen) (bs : List (ℕ × List Part)) (l : Location) → (twice ≡ true → Mine l)
          → Keeps Any (bind_all types program run me level (late_parts twice head bs) l)
      late_keeps twice (case_of ps) bs l m = pure_keeps tt
      late_keeps twice default bs l m = pure_keeps tt
      late_keeps true (case_where p guard) bs l m = bind_all_keeps (owned bs) l (inl (m refl))
      late_keeps false (case_where p guard) bs l m = pure_keeps tt

      holds_guard_keeps : (head : TWhen) → TameGuard program reach types k head
          → Keeps Any (holds_guard types program run me level head)
      holds_guard_keeps (case_of ps) w = pure_keeps true
      holds_guard_keeps (case_where p guard) w = test_keeps guard w
      holds_guard_keeps default w = pure_keeps true

      take_apart_keeps : (b : Bool) (p : TPat) (e : TExp) (l : Location) → (b ≡ true → Mine l)
          → Keeps Any (take_apart types program run me level b p e l)
      take_apart_keeps true p e l m =
          next_i (end_rest_keeps p (types.shape (node_of e).ty) l level (m refl)) (vacate_keeps l (m refl))
      take_apart_keeps false p e l m = pure_keeps tt

      take_clause_keeps : (e : TExp) (head : TWhen) (p : TPat) (l : Location) (names : List ℕ) {body : Act Flow}
          → (binds_twice types program e ≡ true → Mine l) → Keeps Any body
          → Keeps Any (take_clause types program run me level e head p l names body)
      take_clause_keeps e head p l names m h =
          next_i (late_keeps (binds_twice types program e) head (bound_parts p []) l m)
          (next_i (take_apart_keeps (binds_twice types program e) p e l m)
          (then_i h (λ f u. leave_scope_keeps names f)))

      run_clause_keeps : (e : TExp) (head : TWhen) (p : TPat) (l : Location) (names : List ℕ) {body next : Act Flow}
          → (binds_twice types program e ≡ true → Mine l) → Mine l ⊎ AllCopy (bound_parts p [])
          → TameGuard program reach types k head
          → Keeps Any body → Keeps Any next
          → Keeps Any (run_clause types program run me level e head p l names body next)
      run_clause_keeps e head p l names m c w h hn =
          next_i (bind_all_keeps (bound_parts p []) l c)
          (then_i (holds_guard_keeps head w) (λ go u. pick_i go (take_clause_keeps e head p l names m h) hn))

      mine_or_copies : (shown : Bool) (p : TPat) (l : Location) → (shown ≡ false → Mine l)
          → (shown ≡ true → ShownPat program reach types k p) → Mine l ⊎ AllCopy (bound_parts p [])
      mine_or_copies true p l m s = inr (bound_copy p [] (s refl))
      mine_or_copies false p l m s = inl (m refl)

      clause_or_keeps : (e : TExp) (head : TWhen) (o : Option TPat) (l : Location) (names : List ℕ)
          {body next : Act Flow} → (is_shown program reach types k e ≡ false → Mine l)
          → (is_shown program reach types k e ≡ true → OptShown o) → TameGuard program reach types k head
          → Keeps Any body → Keeps Any next
          → Keeps Any (clause_or types program run me level e head o l names body next)
      clause_or_keeps e head None l names m s w h hn = hn
      clause_or_keeps e head (Some p) l names m s w h hn =
          run_clause_keeps e head p l names (λ t. m (twice_shown (is_copyable types (node_of e).ty) (path_of e) t))
          (mine_or_copies (is_shown program reach types k e) p l m s) w h hn

      -- ---- statements

      then_go_keeps : (f : Flow) {p : Act Flow} → Keeps Any p → Keeps Any (then_go f p)
      then_go_keeps onward h = h
      then_go_keeps (broke at) h = pure_keeps _
      then_go_keeps (continued at) h = pure_keeps _
      then_go_keeps (returned at) h = pure_keeps _

      after_turn_keeps : (f : Flow) {p : Act Flow} → Keeps Any p → Keeps Any (after_turn f p)
      after_turn_keeps onward h = h
      after_turn_keeps (continued at) h = h
      after_turn_keeps (broke at) h = pure_keeps _
      after_turn_keeps (returned at) h = pure_keeps _

      while_keeps : (d : ℕ) (c : Act Bool) (b : Act Flow) → Keeps Any c → Keeps Any b → Keeps Any (while_turns d c b)
      while_keeps zero c b hc hb = stop_keeps
      while_keeps (suc d) c b hc hb =
          next_i turn_keeps (then_i hc
          (λ h u. pick_i h (then_i hb (λ f u'. after_turn_keeps f (while_keeps d c b hc hb))) (pure_keeps onward)))

      repeat_keeps : (d : ℕ) (c : Act Bool) (b : Act Flow) → Keeps Any c → Keeps Any b → Keeps Any (repeat_turns d c b)
      repeat_keeps zero c b hc hb = stop_keeps
      repeat_keeps (suc d) c b hc hb =
          next_i turn_keeps (then_i hb
          (λ f u. after_turn_keeps f (then_i hc (λ h u'. pick_i h (repeat_keeps d c b hc hb) (pure_keeps onward)))))

      for_keeps : (d : ℕ) (b : ℤ → Act Flow) (first last : ℤ) → ((n : ℤ) → Keeps Any (b n))
          → Keeps Any (for_turns d b first last)
      for_keeps zero b first last hb = stop_keeps
      for_keeps (suc d) b first last hb =
          pick_i (int_le first last)
          (next_i turn_keeps (then_i (hb first) (λ f u. after_turn_keeps f (for_keeps d b (first +ℤ pos 1) last hb))))
          (pure_keeps onward)

      module _ (depth : ℕ) where
        mutual
          exec_keeps : (s : TStm) → TameStm program reach types k s
              → Keeps Any (exec types program run me level depth s)
          exec_keeps (let_in at x e) w =
              then_i (eval_keeps e w) (λ v u. next_i (set_own_keeps x (holds v) tt) (pure_keeps onward))
          exec_keeps (declare at x) w =
              then_i (look_keeps _ (shape_looks x))
              (λ s u. next_i (set_own_keeps x (holds (vacant s)) tt) (pure_keeps onward))
          exec_keeps (ignore at e) w = next_i (drop_value_keeps e w) (pure_keeps _)
          exec_keeps (assign at p e) w = next_i (assign_value_keeps p e w.0 w.1) (pure_keeps _)
          exec_keeps (update at p o mark e) w =
              then_i (then_i (eval_keeps e w.0) (λ v u. look_keeps _ (as_int_looks v)))
              (λ y u. then_i (write_place_keeps p.place w.1) (λ l m.
              then_i (then_i (read_keeps l) (λ v u'. look_keeps _ (as_int_looks v)))
              (λ x u'. next_i (then_i (look_keeps _ (as_val_looks _ (computed_looks o mark.start x y)))
              (λ v u2. put_keeps l v m)) (pure_keeps _))))
          exec_keeps (discard_self at p) w =
              next_i (then_i (then_i (write_place_keeps p w) (λ l m. move_keeps l m)) (λ v u. forget_keeps v))
              (pure_keeps _)
          exec_keeps (if_then at c a) w = then_i (test_keeps c w.0) (λ b u. pick_i b (block_keeps a w.1) (pure_keeps _))
          exec_keeps (if_else at c a b) w =
              then_i (test_keeps c w.0) (λ x u. pick_i x (block_keeps a w.1) (block_keeps b w.2))
          exec_keeps (else_if at c a s) w =
              then_i (test_keeps c w.0) (λ b u. pick_i b (block_keeps a w.1) (exec_keeps s w.2))
          exec_keeps (loop_while at c a) w = while_keeps depth _ _ (test_keeps c w.0) (block_keeps a w.1)
          exec_keeps (loop_repeat at a c) w = repeat_keeps depth _ _ (test_keeps c w.1) (block_keeps a w.0)
          exec_keeps (loop_for at x low o mark high a) w =
              then_i (then_i (eval_keeps low w.0) (λ v u. look_keeps _ (as_int_looks v)))
              (λ i u. then_i (then_i (eval_keeps high w.1) (λ v u'. look_keeps _ (as_int_looks v))) (λ j u'.
              pick_i (int_lt j i) (trap_keeps 4 mark.start)
              (for_keeps depth _ i (last_of o j) (λ n. turn_of_keeps x n a w.2))))
          exec_keeps (switch at e cs) w =
              then_i (subject_keeps (is_copyable types (node_of e).ty) (path_of e) e
              (tame_subject (is_shown program reach types k e) (TameExp program reach types k e) w.0))
              (λ l m. then_i (clauses_keeps cs e l m w.1) (λ f u. pure_keeps _))
          exec_keeps (leave at) w = pure_keeps _
          exec_keeps (go_on at) w = pure_keeps _
          exec_keeps (return_none at) w = pure_keeps _
          exec_keeps (return_value at e) w =
              next_i (then_i (eval_keeps e w) (λ v u. put_keeps (root_at me result) v (inl refl))) (pure_keeps _)
          exec_keeps (evaluate at e) w = next_i (drop_value_keeps e w) (pure_keeps _)

          stms_keeps : (ss : TStms) → TameStms program reach types k ss
              → Keeps Any (exec_all types program run me level depth ss)
          stms_keeps no_stms w = pure_keeps _
          stms_keeps (stm s ss) w = then_i (exec_keeps s w.0) (λ f u. then_go_keeps f (stms_keeps ss w.1))

          block_keeps : (b : TBlk) → TameBlock program reach types k b
              → Keeps Any (exec_block types program run me level depth b)
          block_keeps (block at ss) w = then_i (stms_keeps ss w) (λ f u. leave_scope_keeps (locals ss) f)

          turn_of_keeps : (x : Option ℕ) (n : ℤ) (b : TBlk) → TameBlock program reach types k b
              → Keeps Any (exec_turn types program run me level depth x n b)
          turn_of_keeps None n (block at ss) w = then_i (stms_keeps ss w) (λ f u. leave_scope_keeps (locals ss) f)
          turn_of_keeps (Some x) n (block at ss) w =
              then_i (next_i (set_own_keeps x (holds (int n)) tt) (stms_keeps ss w))
              (λ f u. leave_scope_keeps (x ∷ locals ss) f)

          clauses_keeps : (cs : TClauses) (e : TExp) (l : Location)
              → (is_shown program reach types k e ≡ false → Mine l)
              → TameClauses program reach types k (is_shown program reach types k e) cs
              → Keeps Any (exec_clauses types program run me level depth cs e l)
          clauses_keeps no_clauses e l m w = err_keeps
          clauses_keeps (clause span head ss cs) e l m w =
              then_i (peek_keeps l) (λ v u. then_i (chosen_keeps (is_shown program reach types k e) head v w.0) (λ p s.
              clause_or_keeps e head p l (clause_names (binds_twice types program e) head ++ locals ss) m s w.1
              (stms_keeps ss w.2) (clauses_keeps cs e l m w.3)))

        exec_body_keeps : (is_value : Bool) (b : TBlk) → TameBlock program reach types k b
            → Keeps Any (exec_body types program run me level depth is_value b)
        exec_body_keeps true (block at (stm (evaluate node e) no_stms)) w =
            next_i (then_i (eval_keeps e w.0) (λ v u. put_keeps (root_at me result) v (inl refl))) (pure_keeps _)
        exec_body_keeps is_value b w = block_keeps b w

        completed_keeps : (b : Bool) (v : Val) → Keeps Any (completed b v)
        completed_keeps b (struct type None vs) = construct_keeps b type vs
        completed_keeps b (struct type (Some i) vs) = stray_keeps
        completed_keeps b (variant present vs) = stray_keeps
        completed_keeps b (int n) = stray_keeps
        completed_keeps b (bool c) = stray_keeps
        completed_keeps b unit = stray_keeps
        completed_keeps b hole = stray_keeps

        made_self_keeps : (xs : List ℕ) → Keeps Any (made_self types program me xs)
        made_self_keeps [] = stray_keeps
        made_self_keeps (x ∷ xs) =
            then_i (look_keeps _ (or_stray_looks (slice_get program.bindings x)))
            (λ b u. then_i (move_keeps (root_at me (binding x)) (inl refl)) (λ v u'. completed_keeps _ v))

        result_keeps : (b : Bool) → Keeps Any (result_value types program me b)
        result_keeps false = pure_keeps unit
        result_keeps true = read_keeps (root_at me result)

        body_value_keeps : (b : TBody) (kd : BodyKind) → Keeps Any (body_value types program me b kd)
        body_value_keeps b kind.Initializer = made_self_keeps b.params
        body_value_keeps b kind.Function = result_keeps _
        body_value_keeps b kind.Method = result_keeps _
        body_value_keeps b kind.Deinitializer = result_keeps _
        body_value_keeps b (kind.Closure outer) = result_keeps _

        run_body_keeps : (b : TBody) → TameBlock program reach types k b.block
            → Keeps Any (run_body types program depth run me level b)
        run_body_keeps b w =
            then_i (exec_body_keeps _ b.block w)
            (λ f u. next_i (leave_scope_keeps b.params f)
            (next_i (look_keeps _ (come_back_looks f)) (body_value_keeps b b.kind)))

  -- ---- the end of an activation

  pub record Left (old new : State) : Type 0 where
    pub many : length new.store ≡ me
    pub linked : links new.store ≡ links (take me old.store)
    pub apart : (l : Location) → l.activation < me → ((w : Location) → grant.may w → Apart w l)
        → seen new.store l ≡ seen old.store l

  pub record Leaves {A : Type 0} (p : Act A) : Type 0 where
    pub by : (st : State) → Inside st → Ok (λ a st'. Left st st') (p st)

  pub then_leave : {A B : Type 0} {Q : A → Type 0} (p : Act A) (f : A → Act B) → Keeps Q p
      → ((a : A) → Q a → Leaves (f a)) → Leaves (p >>= f)
  then_leave {Q = Q} p f h k = record {
    by =
        λ st i. ok_bind (λ a st'. Step st st' × Inside st' × Q a) (λ b st'. Left st st') (p st) f (h.by st i)
        (λ a st1 q.
        ok_map (λ b st2. Left st1 st2) (λ b st2. Left st st2) (f a st1) ((k a q.2).by st1 q.1) (λ b st2 r. record {
          many = r.many;
          linked = r.linked ∙ q.0.linked;
          apart = λ l lt out. r.apart l lt out ∙ q.0.apart l lt out;
        }));
  }

  pub finish_leaves : {A : Type 0} (v : A) → Leaves (finish >> pure v)
  finish_leaves v = record {
    by = λ st i.
        let last : length st.store - 1 ≡ me = omega (arith, i.top) in
        record {
          many = ap (λ n. length (take n st.store)) last ∙ length_take_one me st.store i.top;
          linked = ap (λ n. links (take n st.store)) last;
          apart =
              λ l lt out. ap (λ n. seen (take n st.store) l) last ∙ ap (seen_at l)
              (get_take_same me st.store l.activation lt);
        };
  }

-- ---- each call, to each depth

module _ (types : Types) (program : Program) (reach : Reach) (tame : TameProgram program reach types) where
  -- ---- before an activation begins its values are moved into it from where they wait

  module _ (grant : Grant) where
    pub record Ready (old new : State) : Type 0 where
      pub many : length new.store ≡ length old.store
      pub linked : links new.store ≡ links old.store
      pub apart : (l : Location) → ((w : Location) → grant.may w → Apart w l) → seen new.store l ≡ seen old.store l

    pub record Prepares {A : Type 0} (Q : A → Type 0) (p : Act A) : Type 0 where
      pub by : (st : State) → Ok (λ a st'. Ready st st' × Q a) (p st)

    ready_same : (st : State) → Ready st st
    ready_same st = record { many = refl; linked = refl; apart = λ l out. refl }

    ready_then : (a b c : State) → Ready a b → Ready b c → Ready a c
    ready_then a b c r s =
        record { many = s.many ∙ r.many; linked = s.linked ∙ r.linked; apart = λ l out. s.apart l out ∙ r.apart l out }

    then_prepares : {A B : Type 0} {Q : A → Type 0} {P : B → Type 0} {p : Act A} {f : A → Act B} → Prepares Q p
        → ((a : A) → Q a → Prepares P (f a)) → Prepares P (p >>= f)
    then_prepares {Q = Q} {P = P} {p = p} {f = f} h k = record {
      by = λ st. ok_bind (λ a st'. Ready st st' × Q a) (λ b st'. Ready st st' × P b) (p st) f (h.by st) (λ a st1 q.
          ok_map (λ b st2. Ready st1 st2 × P b) (λ b st2. Ready st st2 × P b) (f a st1) ((k a q.1).by st1)
          (λ b st2 r. (ready_then st st1 st2 q.0 r.0, r.1)));
    }

    pure_prepares : {A : Type 0} {Q : A → Type 0} (a : A) → Q a → Prepares Q (pure a)
    pure_prepares a q = record { by = λ st. (ready_same st, q) }

    stray_prepares : {A : Type 0} {Q : A → Type 0} → Prepares Q (stray {A = A})
    stray_prepares = record { by = λ st. tt }

    look_prepares : {A : Type 0} (p : Act A) → Looks p → Prepares Any p
    look_prepares p h = record {
      by = λ st. ok_map (λ a st'. st' ≡ st) (λ a st'. Ready st st' × Unit {0}) (p st) (h.by st) (λ a st' e.
          subst (λ s. Ready st s × Unit {0}) (sym e) (ready_same st, tt));
    }

    put_prepares : (l : Location) (v : Val) → grant.may l → Prepares Any (put l v)
    put_prepares l v m = record {
      by = λ st.
          ok_map (λ (u : Unit {0}) st'. Written l st st') (λ u st'. Ready st st' × Unit {0}) (put l v st)
          (put_ok l v st) (λ u st' w.
          (record { many = w.many; linked = w.linked; apart = λ other out. w.apart other (out l m) }, tt));
    }

    move_prepares : (l : Location) → grant.may l → Prepares Any (move l)
    move_prepares l m =
        then_prepares (look_prepares (read l) (read_looks l))
        (λ v u. then_prepares (then_prepares (look_prepares (peek l) (peek_looks l))
        (λ old u'. put_prepares l (emptied old) m)) (λ u2 q. pure_prepares v tt))

    -- a slot that reaches nothing but what was given
    abbrev Given : ℕ → Slot → Type 0
    Given x absent = Unit {0}
    Given x (holds v) = Unit {0}
    Given x (refers l) = reach.borrowed x ≡ false → grant.may l
    Given x (runs b m) = Calls program reach grant b m × Takes program reach b (reach.formals x)

    slot_of_prepares : (x : ℕ) (p : Passed) → PassedFits program reach grant x p → Prepares (Given x) (slot_of p)
    slot_of_prepares x (given l) f = then_prepares (move_prepares l f) (λ v u. pure_prepares (holds v) tt)
    slot_of_prepares x (lent l) f = pure_prepares (refers l) f
    slot_of_prepares x (lent_temporary s l) f = pure_prepares (refers l) f
    slot_of_prepares x (closed b m) f = pure_prepares (runs b m) f

    abbrev AllGiven : (ℕ → Slot) → Type 0
    AllGiven slots = (y : ℕ) → Given y (slots y)

    with_given : (x : ℕ) (s : Slot) (rest : ℕ → Slot) → Given x s → AllGiven rest → AllGiven (with_at x s rest)
    with_given x s rest g h y = go (x == y) refl
      where
        go : (c : Bool) → (x == y) ≡ c → Given y (if c then s else rest y)
        go true e = subst (λ z. Given z s) ((Decides-eqb x y).0 e) g
        go false e = h y

    slots_of_prepares : (xs : List ℕ) (ps : List Passed) → AllFit program reach grant xs ps
        → Prepares AllGiven (slots_of xs ps)
    slots_of_prepares [] [] f = pure_prepares (λ x. absent) (λ y. tt)
    slots_of_prepares (x ∷ xs) (p ∷ ps) f =
        then_prepares (slot_of_prepares x p f.0)
        (λ s g. then_prepares (slots_of_prepares xs ps f.1)
        (λ rest h. pure_prepares (with_at x s rest) (with_given x s rest g h)))
    slots_of_prepares [] (p ∷ ps) f = stray_prepares
    slots_of_prepares (x ∷ xs) [] f = stray_prepares

    init_slots_prepares : (xs : List ℕ) (ps : List Passed) → AllFit program reach grant (after_self xs) ps
        → Prepares AllGiven (init_slots types program xs ps)
    init_slots_prepares [] ps f = stray_prepares
    init_slots_prepares (x ∷ xs) ps f =
        then_prepares (look_prepares _ (or_stray_looks (slice_get program.bindings x)))
        (λ b u. then_prepares (slots_of_prepares xs ps f) (λ rest h.
        pure_prepares (with_at x (holds (opened (types.shape b.ty))) rest)
        (with_given x (holds (opened (types.shape b.ty))) rest tt h)))

    entry_slots_prepares : (kd : BodyKind) (xs : List ℕ) (ps : List Passed)
        → AllFit program reach grant (entry_params kd xs) ps → Prepares AllGiven (entry_slots types program kd xs ps)
    entry_slots_prepares kind.Initializer xs ps f = init_slots_prepares xs ps f
    entry_slots_prepares kind.Function xs ps f = slots_of_prepares xs ps f
    entry_slots_prepares kind.Method xs ps f = slots_of_prepares xs ps f
    entry_slots_prepares kind.Deinitializer xs ps f = slots_of_prepares xs ps f
    entry_slots_prepares (kind.Closure outer) xs ps f = slots_of_prepares xs ps f

    given_fits : (me k x : ℕ) (s : Slot) → Given x s → Fits types program reach grant me k x s
    given_fits me k x absent g = tt
    given_fits me k x (holds v) g = tt
    given_fits me k x (refers l) g = λ e. inr (g e)
    given_fits me k x (runs b m) g = g

    maker_of : (me k : ℕ) (m : Option ℕ) → MakerFits program reach grant k m → MakerOf types program reach grant me k m
    maker_of me k None f = λ x c h. absurd (f x c h)
    maker_of me k (Some m) f = λ x c h. (m, refl, f x c h)

  module _ (d : ℕ) (run : Call) (frames : CallsFrame program reach run) where
    -- the body, once its activation has begun
    body_leaves : (grant : Grant) (me k : ℕ) (body : TBody) (level : ℕ) → slice_get program.bodies k ≡ Some body
        → Leaves types program reach grant me k (run_body types program d run me level body >>= λ v. finish >> pure v)
    body_leaves grant me k body level e =
        then_leave types program reach grant me k (run_body types program d run me level body) _
        (run_body_keeps types program reach grant me k run level frames tame d body (tame.bodies k body e))
        (λ v q. finish_leaves types program reach grant me k v)

    abbrev fresh : ℕ → Option ℕ → (ℕ → Slot) → Activation
    fresh k m slots = record { body = k; maker = m; slots = slots; temporaries = λ node. hole; result = hole }

    abbrev inner : ℕ → Option ℕ → TBody → ℕ → (ℕ → Slot) → Act Val
    inner k m body level slots =
        begin (fresh k m slots) >>= λ me. run_body types program d run me level body >>= λ v. finish >> pure v

    begun : (grant : Grant) (k : ℕ) (body : TBody) (m : Option ℕ) (level : ℕ) (slots : ℕ → Slot)
        → slice_get program.bodies k ≡ Some body → AllGiven grant slots → MakerFits program reach grant k m
        → (st : State) → Closed program reach grant (links st.store)
        → Ok (λ v st'. Framed grant st st') (inner k m body level slots st)
    begun grant k body m level slots e given_ maker st closed_ =
        let me = length st.store in
        let act = fresh k m slots in
        let st2 : State = record st { store = st.store ++ act ∷ [] } in
        let below_is : take me st2.store ≡ st.store = take_all st.store (act ∷ []) in
        let inside : Inside types program reach grant me k st2 = record {
          top = omega (arith, length-append st.store (act ∷ []));
          act = act;
          here = get_last st.store act;
          whose = refl;
          maker = maker_of grant me k m maker;
          slots = λ x. given_fits grant me k x (slots x) (given_ x);
          closed_ = subst (λ s. Closed program reach grant (links s)) (sym below_is) closed_;
        } in
        ok_map (λ v st'. Left types program reach grant me k st2 st') (λ v st'. Framed grant st st') _
        ((body_leaves grant me k body level e).by st2 inside) (λ v st' l. record {
          many = l.many;
          linked = l.linked ∙ ap links below_is;
          apart =
              λ loc lt out. l.apart loc lt out ∙ ap (seen_at loc) (get_append st.store (act ∷ []) loc.activation lt);
        })

    prepared : (grant : Grant) (k : ℕ) (body : TBody) (m : Option ℕ) (ps : List Passed) (level : ℕ)
        → slice_get program.bodies k ≡ Some body → (st : State) → Admits program reach grant k m ps st.store
        → Ok (λ v st'. Framed grant st st')
        ((entry_slots types program body.kind body.params ps >>= inner k m body level) st)
    prepared grant k body m ps level e st adm =
        ok_bind (λ slots st1. Ready grant st st1 × AllGiven grant slots) (λ v st'. Framed grant st st')
        (entry_slots types program body.kind body.params ps st) (inner k m body level)
        ((entry_slots_prepares grant body.kind body.params ps (adm.passed body e)).by st) (λ slots st1 q.
        ok_map (λ v st2. Framed grant st1 st2) (λ v st2. Framed grant st st2) (inner k m body level slots st1)
        (begun grant k body m level slots e q.1 adm.maker st1
        (subst (Closed program reach grant) (sym q.0.linked) adm.closed)) (λ v st2 f. record {
          many = f.many ∙ q.0.many;
          linked = f.linked ∙ q.0.linked;
          apart = λ l lt out. f.apart l (subst (λ n. l.activation < n) (sym q.0.many) lt) out ∙ q.0.apart l out;
        }))

    entered_frames : (grant : Grant) (k : ℕ) (body : TBody) (m : Option ℕ) (ps : List Passed) (level : ℕ)
        → slice_get program.bodies k ≡ Some body → (st : State) → Admits program reach grant k m ps st.store
        → Ok (λ v st'. Framed grant st st') ((take_turn >> entered types program d run k body m ps level) st)
    entered_frames grant k body m ps level e st adm = turned st.turns
      where
        leveled : (n : ℕ) (c : Bool) → Ok (λ v st'. Framed grant st st')
            (after (pick {A = Unit {0}} c (pure tt) (trap 3 0) (record st { turns = n }))
            (λ u. entry_slots types program body.kind body.params ps >>= inner k m body (level + 1)))
        leveled n false = tt
        leveled n true =
            ok_map (λ v st'. Framed grant (record st { turns = n }) st') (λ v st'. Framed grant st st') _
            (prepared grant k body m ps (level + 1) e (record st { turns = n })
            (record { closed = adm.closed; passed = adm.passed; maker = adm.maker }))
            (λ v st' f. record { many = f.many; linked = f.linked; apart = f.apart })

        turned : (n : ℕ)
            → Ok (λ v st'. Framed grant st st')
            (after (turn_of n st) (λ u. entered types program d run k body m ps level))
        turned zero = tt
        turned (suc n) = leveled n (nat_le (level + 1) MOST_LEVELS)

  -- each call frames, whatever the depth
  pub run_frames : (d : ℕ) → CallsFrame program reach (run_to types program d)
  run_frames zero grant k m ps level st adm = tt
  run_frames (suc d) grant k m ps level st adm =
      of_body (slice_get program.bodies k) refl
      (λ body e. entered_frames d (run_to types program d) (run_frames d) grant k body m ps level e st adm)
    where
      of_body : (o : Option TBody) → slice_get program.bodies k ≡ o
          → ((body : TBody) → slice_get program.bodies k ≡ Some body → Ok (λ v st'. Framed grant st st')
          ((take_turn >> entered types program d (run_to types program d) k body m ps level) st))
          → Ok (λ v st'. Framed grant st st')
          ((or_stray o >>= λ body. take_turn >> entered types program d (run_to types program d) k body m ps level) st)
      of_body None e h = tt
      of_body (Some body) e h = h body e
