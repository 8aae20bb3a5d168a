-- No statement strays, where no call does.
use Rattle.std.proofs.Common.{◌≡◌, ℕ, zero, suc, Bool, true, false, List, [], ◌∷◌, ◌++◌, map, Option, Some, None, inl, inr, refl, sym, ap, ◌∙◌, subst}
use Rattle.std.specs.Prelude.{◌⊎◌, ◌==◌, ◌≢◌, ℤ, pos, ◌+ℤ◌, int_le, int_lt, slice_get, slice_set, if◌then◌else◌}
use Rattle.std.proofs.lemmas.Bool.Decides.{Decides-eqb}
use Rattle.own_tree.specs.declared.arithmetic.Arith.{Arith}
use Rattle.own_tree.specs.declared.place.Binding.{Binding}
use Rattle.own_tree.specs.declared.place.Mode.{Mode}
use Rattle.own_tree.specs.declared.place.Mode.TheVariants as mode
use Rattle.own_tree.specs.declared.place.Place.{Place}
use Rattle.own_tree.specs.declared.place.Ty.{Ty}
use Rattle.own_tree.specs.declared.place.Ty.TheVariants as type
use Rattle.own_tree.specs.declared.span.Span.{Span}
use Rattle.own_tree.specs.declared.typed.At.{At}
use Rattle.own_tree.specs.declared.typed.TypedPath.{TypedPath}
use Rattle.own_tree.specs.TypedSource as typed
use Rattle.own_tree.specs.TypedSource.{TPat, any, TPats, no_pats, pat, TExp, TWhen, case_of, case_where, default, TStm, let_in, declare, ignore, assign, update, discard_self, if_then, if_else, else_if, loop_while, loop_repeat, loop_for, switch, leave, go_on, return_none, return_value, evaluate, TStms, no_stms, stm, TClauses, no_clauses, clause, TBlk, block, TBody, Program}
use Rattle.own_paths.specs.Ops.{ends, ended, has_end, binds_twice}
use Rattle.own_paths.specs.Within.{node_of, path_of, pattern_bindings, patterns_bindings, locals}
use Rattle.own_shapes.specs.Types.{Types, TypeHead, Shape, Shapes, copyable, tracked, is_copyable, shape_in}
use Rattle.own_shapes.specs.Types as shape
use Rattle.own_judged.specs.Text.{Text}
use Rattle.own_runs.specs.Calls.{holder, locate}
use Rattle.own_runs.specs.Destruction.{Call, end_value}
use Rattle.own_runs.specs.Loops.{Flow, onward, broke, continued, returned, then_go, caught, after_turn, while_turns, repeat_turns, for_turns}
use Rattle.own_runs.specs.Patterns.{chosen, bound_parts}
use Rattle.own_runs.specs.Run.{last_of, forget, bind_all, eval, test, drop_value, end_slot, end_all, leave_scope, subject_at, subject, take_apart, late_parts, clause_names, clause_or, exec, exec_all, exec_block, exec_turn, exec_clauses, exec_body}
use Rattle.own_runs.specs.Store.{binding, result, Location, Slot, absent, holds, refers, runs, State, Act, Activation, slot_at, with_at, hold, put, read, root_at}
use Rattle.own_runs.specs.Values.{Val, int, bool, unit, struct, variant, hole, vacant}
use Rattle.own_ways.specs.Ways.{Way, gives, traps, stops, errs, strays, after, ◌>>=◌, ◌>>◌, pure, or_stray, pick}
use Rattle.own_known.specs.Known.{IsTypeHere, PathKnown, ExpKnown, StmKnown, StmsKnown, BlkKnown, ClausesKnown, WhenKnown, ConditionKnown, TurnKnown, GivesBack, NamesOf}
use Rattle.own_steady.specs.Fits.{IsNumbered, Fits, IsGood, FoundIs}
use Rattle.own_steady.specs.Programs.{setting}
use Rattle.own_steady.specs.Steady.{a_value, a_closure, form_by, own_shape, Setting, Site, with_names, in_a_loop, in_a_switch, turn_names, names_after, is_in, is_alias, is_loan, has_function_type, Waits, PlaceSteady, ExpSteady, PatSteady, TwiceSteady, HeadSteady, LocalSteady, TurnSteady, StmSteady, StmsSteady, BlkSteady, ClausesSteady, ResultSteady, itself}
use Rattle.own_steady.specs.Ways.{CameOut, Leads, Keeps}
use Rattle.own_steady.specs.Worlds.{Kind, bare, maybe, owns, stands_for, calls, Frame, World, SlotFits, ActivationFits, StoreFits, Stands, with_kind}
use Rattle.own_steady.proofs.Binding.{OfChosen, first_fits, guarded_fits, Made, value_made, known_some, pattern_k, second_k, end_rest_k}
use Rattle.own_steady.proofs.Destroying.{CallsKeep, Deep, end_k}
use Rattle.own_steady.proofs.Evaluating.{Facts, path_known, type_here, eval_k, wait_k, path_k, int_k, bool_k, deep_of}
use Rattle.own_steady.proofs.Names.{place_k, own_other}
use Rattle.own_steady.proofs.Numbers.{as_int_k, computed_k}
use Rattle.own_steady.proofs.Seeing.{HomeKind, IsBare, Seen, fewer_made, with_kind_grows, stands_grows, KindGrows, on_either, no_yes}
use Rattle.own_steady.proofs.Steps.{In, IsThere, then_l, next_l, pure_l, trap_l, stop_l, err_l, pick_l, or_found_l, lead_to, lead_from, some_same, get_there, set_there, set_same, get_set, read_k, move_k, put_k, peek_k, vacate_k, turn_k, note_k, slot_k}
use Rattle.own_steady.proofs.Values.{vacant_fits}

-- how control leaves a part of a body at a site
abbrev pub WayOf : (breaks continues : Bool) → Flow → Type 0
WayOf b c onward = Unit {0}
WayOf b c (broke at) = b ≡ true
WayOf b c (continued at) = c ≡ true
WayOf b c (returned at) = Unit {0}

abbrev pub IsWay : Site → Flow → Type 0
IsWay g = WayOf g.breaks g.continues

path_steady : (here : Setting) (g : Site) (e : TExp) (p : TypedPath) → path_of e ≡ Some p → ExpSteady here g e → PlaceSteady here g p.place
path_steady here g (typed.path q) p e h = subst (λ z. PlaceSteady here g z.place) (same e) h
  where
    same : Some q ≡ Some p → q ≡ p
    same e = cc
path_steady here g (typed.parenthesized at e) p q h = path_steady here g e p q h
path_steady here g (typed.number at n) p q h = absurd (cc)
path_steady here g (typed.text at t) p q h = absurd (cc)
path_steady here g (typed.truth at b) p q h = absurd (cc)
path_steady here g (typed.consumed at r) p q h = absurd (cc)
path_steady here g (typed.negated at mark e) p q h = absurd (cc)
path_steady here g (typed.inverted at e) p q h = absurd (cc)
path_steady here g (typed.arithmetic at o mark a b) p q h = absurd (cc)
path_steady here g (typed.wrapping at o a b) p q h = absurd (cc)
path_steady here g (typed.compared at o a b) p q h = absurd (cc)
path_steady here g (typed.logic at o a b) p q h = absurd (cc)
path_steady here g (typed.choice at c a b) p q h = absurd (cc)
path_steady here g (typed.member at e i) p q h = absurd (cc)
path_steady here g (typed.call at to es passings) p q h = absurd (cc)
path_steady here g (typed.address r) p q h = absurd (cc)
path_steady here g (typed.closure at j) p q h = absurd (cc)
path_steady here g (typed.function at x) p q h = absurd (cc)

assoc_way : {A B C : Type 0} (J : State → Type 0) (R : C → Type 0) (w : Way State A) (q : Act B) (f : B → Act C) → CameOut J R (after w (λ a. q >>= f)) → CameOut J R (after (after w (λ a. q)) f)
assoc_way J R (gives a s) q f h = h
assoc_way J R (traps code at s) q f h = h
assoc_way J R (stops s) q f h = h
assoc_way J R (errs s) q f h = h
assoc_way J R (strays s) q f h = h

pub assoc_l : {I J : State → Type 0} {A B C : Type 0} {R : C → Type 0} (p : Act A) (q : Act B) (f : B → Act C) → Leads I R J (p >> (q >>= f)) → Leads I R J ((p >> q) >>= f)
assoc_l {J = J} {R = R} p q f h = record { comes = λ s i. assoc_way J R (p s) q f (h.comes s i) }

-- what a step that is known to be nothing, or a test that is known to hold, leads to
nothing_then : {I J : State → Type 0} {B : Type 0} {R : B → Type 0} {q : Act B} → Leads I R J q → Leads I R J (pure (tt {0}) >> q)
nothing_then h = record { comes = λ s i. h.comes s i }

true_then : {I J : State → Type 0} {B : Type 0} {R : B → Type 0} (p q : Act B) → Leads I R J p → Leads I R J (pure true >>= λ go. pick go p q)
true_then p q h = record { comes = λ s i. h.comes s i }

-- ---- loops

module _ (w : World) (g : Site) where
  after_turn_k : (f : Flow) {p : Act Flow} → Keeps (In w) (IsWay g) p → Keeps (In w) (IsWay g) (after_turn f p)
  after_turn_k onward h = h
  after_turn_k (continued at) h = h
  after_turn_k (broke at) h = pure_l onward tt
  after_turn_k (returned at) h = pure_l (returned at) tt

  pub while_k : (d : ℕ) {condition : Act Bool} {body : Act Flow} → Keeps (In w) (λ x. Unit {0}) condition → Keeps (In w) (IsWay (in_a_loop g)) body
      → Keeps (In w) (IsWay g) (while_turns d condition body)
  while_k zero h k = stop_l
  while_k (suc d) h k =
      next_l (turn_k w) (then_l h (λ holds u.
      pick_l holds (λ e. then_l k (λ f v. after_turn_k f (while_k d h k))) (λ e. pure_l onward tt)))

  pub repeat_k : (d : ℕ) {condition : Act Bool} {body : Act Flow} → Keeps (In w) (λ x. Unit {0}) condition → Keeps (In w) (IsWay (in_a_loop g)) body
      → Keeps (In w) (IsWay g) (repeat_turns d condition body)
  repeat_k zero h k = stop_l
  repeat_k (suc d) h k =
      next_l (turn_k w) (then_l k (λ f v.
      after_turn_k f (then_l h (λ holds u. pick_l holds (λ e. repeat_k d h k) (λ e. pure_l onward tt)))))

  pub for_k : (d : ℕ) {body : ℤ → Act Flow} → ((n : ℤ) → Keeps (In w) (IsWay (in_a_loop g)) (body n)) → (first last : ℤ)
      → Keeps (In w) (IsWay g) (for_turns d body first last)
  for_k zero k first last = stop_l
  for_k (suc d) k first last =
      pick_l (int_le first last)
      (λ e. next_l (turn_k w) (then_l (k first) (λ f v. after_turn_k f (for_k d k (first +ℤ pos 1) last))))
      (λ e. pure_l onward tt)

  pub caught_way : (f : Flow) → IsWay (in_a_switch g) f → IsWay g (caught f)
  caught_way onward h = tt
  caught_way (broke at) h = tt
  caught_way (continued at) h = h
  caught_way (returned at) h = tt

-- ---- the end of a scope

ended_form : (m : Mode) (f c : Bool) → has_end m ≡ true → (form_by (is_alias m) f c (is_loan m) ≡ a_value) ⊎ (form_by (is_alias m) f c (is_loan m) ≡ a_closure)
ended_form mode.Let true c e = inr refl
ended_form mode.Let false true e = inl refl
ended_form mode.Let false false e = inl refl
ended_form mode.Var true c e = inr refl
ended_form mode.Var false true e = inl refl
ended_form mode.Var false false e = inl refl
ended_form mode.Plain true c e = inr refl
ended_form mode.Plain false true e = inl refl
ended_form mode.Plain false false e = inl refl
ended_form mode.Consuming true c e = inr refl
ended_form mode.Consuming false true e = inl refl
ended_form mode.Consuming false false e = inl refl
ended_form mode.Turn true c e = inr refl
ended_form mode.Turn false true e = inl refl
ended_form mode.Turn false false e = inl refl
ended_form mode.PatternOwned true c e = inr refl
ended_form mode.PatternOwned false true e = inl refl
ended_form mode.PatternOwned false false e = inl refl
ended_form mode.SelfConsuming true c e = inr refl
ended_form mode.SelfConsuming false true e = inl refl
ended_form mode.SelfConsuming false false e = inl refl
ended_form mode.Closure true c e = inr refl
ended_form mode.Closure false true e = inl refl
ended_form mode.Closure false false e = inl refl
ended_form mode.Borrowing f c e = no_yes e
ended_form mode.Inout f c e = no_yes e
ended_form mode.PatternBorrowed f c e = no_yes e
ended_form mode.SelfBorrowing f c e = no_yes e
ended_form mode.SelfMutating f c e = no_yes e
ended_form mode.SelfInit f c e = no_yes e
ended_form mode.SelfDeinit f c e = no_yes e

not_init : (m : Mode) → has_end m ≡ true → m ≢ mode.SelfInit
not_init m e q = no_yes (ap has_end (sym q) ∙ e)

-- a slot is looked at: where it holds a value, that fits
module _ (w : World) (me x : ℕ) (f : Frame) (there : slice_get w me ≡ Some f) (s : Shape) (is : f.kinds x ≡ maybe s) where
  holds_now : (st : State) (act : Activation) (v : Val) → In w st → slice_get st.store me ≡ Some act → ActivationFits f act → act.slots x ≡ holds v → Fits s v → In (slice_set w me (with_kind x (owns s) f)) st
  holds_now st act v i got fits e fit =
      subst (StoreFits (slice_set w me (with_kind x (owns s) f))) (set_same st.store me act got)
      (set_there w st.store me (with_kind x (owns s) f) act i
      (record { body = fits.body; maker = fits.maker; slots = λ y. at_one y (x == y) refl; temporaries = fits.temporaries; result = fits.result }))
    where
      at_one : (y : ℕ) (b : Bool) → (x == y) ≡ b → SlotFits (if b then owns s else f.kinds y) (act.slots y)
      at_one y true q = subst (λ z. SlotFits (owns s) z) (sym e ∙ ap act.slots ((Decides-eqb x y).0 q)) fit
      at_one y false q = fits.slots y

  look_at : {B : Type 0} {R : B → Type 0} {next : Slot → Act B} → Keeps (In w) R (next absent)
      → ((v : Val) → Leads (In (slice_set w me (with_kind x (owns s) f))) R (In w) (next (holds v)))
      → Keeps (In w) R (slot_at me x >>= next)
  look_at {B} {R} {next} none some = record { comes = λ st i. by st i (get_there w st.store me f i there) }
    where
      at_slot : (st : State) (act : Activation) → In w st → slice_get st.store me ≡ Some act → ActivationFits f act → (slot : Slot) → act.slots x ≡ slot → SlotFits (maybe s) slot → CameOut (In w) R (next slot st)
      at_slot st act i got fits absent e q = none.comes st i
      at_slot st act i got fits (holds v) e q = (some v).comes st (holds_now st act v i got fits e q)
      at_slot st act i got fits (refers l) e q = absurd q
      at_slot st act i got fits (runs b m) e q = absurd q

      by : (st : State) → In w st → IsThere st.store me f → CameOut (In w) R ((slot_at me x >>= next) st)
      by st i t =
          subst (λ o. CameOut (In w) R (after (after (or_stray o st) (λ act. pure (act.slots x))) next)) (sym t.got)
          (at_slot st t.act i t.got t.fits (t.act.slots x) refl (subst (λ z. SlotFits z (t.act.slots x)) is (t.fits.slots x)))

module _ (text : Text) (program : Program) (node_type : ℕ → Ty) (outer : ℕ → List ℕ) (facts : Facts text program node_type outer)
    (run : Call) (keep : CallsKeep (setting text program node_type outer) run) (me level n k : ℕ) (ret : Ty) (depth : ℕ)
    (body : TBody) (bodied : slice_get program.bodies k ≡ Some body) (gives_back : body.result ≡ ret) where
  abbrev here : Setting
  here = setting text program node_type outer

  abbrev SeenAt : World → List ℕ → Type 0
  SeenAt w names = Seen here n w me k ret names

  abbrev Of : Ty → Shape
  Of ty = text.types.shape ty

  value_k : (w : World) (g : Site) (seen : SeenAt w g.names) (e : TExp) → ExpKnown text program k e → ExpSteady here g e → Keeps (In w) (IsGood (Of (node_of e).ty)) (eval text.types program run me level e)
  value_k w g seen e h s = eval_k text program node_type outer facts run keep me level n k ret w g seen e h s

  test_k : (w : World) (g : Site) (seen : SeenAt w g.names) (c : TExp) → ConditionKnown text program k c → ExpSteady here g c → Keeps (In w) (λ b. Unit {0}) (test text.types program run me level c)
  test_k w g seen c h s = bool_k text program node_type outer facts run keep me level n k ret w g seen (node_of c).ty h.1 (value_k w g seen c h.0 s)

  held_k : (w : World) (g : Site) (seen : SeenAt w g.names) (e : TExp) → ExpKnown text program k e → ExpSteady here g e → Waits here (holder e)
      → Keeps (In w) (λ l. Stands w l (Of (node_of e).ty)) (eval text.types program run me level e >>= hold me (holder e))
  held_k w g seen e h s q = wait_k text program node_type outer facts run keep me level n k ret w g seen e h q (value_k w g seen e h s)

  deep_type : (w : World) (g : Site) (seen : SeenAt w g.names) (ty : Ty) → IsTypeHere text program ty → Deep here (Of ty)
  deep_type w g seen ty o = deep_of text program node_type outer facts run keep me level n k ret w g seen ty o

  ended_k : (w : World) (s : Shape) (l : Location) → Deep here s → Stands w l s → Keeps (In w) (λ u. Unit {0}) (end_value program run s l level)
  ended_k w s l d t = end_k here run keep facts.steady.deinits s w l level t d

  drop_k : (w : World) (g : Site) (seen : SeenAt w g.names) (e : TExp) → ExpKnown text program k e → ExpSteady here g e → Waits here (holder e)
      → Keeps (In w) (λ u. Unit {0}) (drop_value text.types program run me level e)
  drop_k w g seen e h s q = then_l (held_k w g seen e h s q) (λ l t. ended_k w (Of (node_of e).ty) l (deep_type w g seen (node_of e).ty (type_here text program k e h)) t)

  place_of : (w : World) (g : Site) (seen : SeenAt w g.names) (p : TypedPath) → PathKnown text program k p → PlaceSteady here g p.place → Keeps (In w) (λ l. Stands w l (Of p.at.ty)) (locate text.types program run me level p.place)
  place_of w g seen p h s = path_k text program node_type outer facts run keep me level n k ret w g seen p h s

  -- ---- the end of a scope

  slot_ends : (w : World) (names : List ℕ) (seen : SeenAt w names) (x : ℕ) (b : Binding) → slice_get program.bindings x ≡ Some b → has_end b.mode ≡ true
      → Keeps (In w) (λ u. Unit {0}) (slot_at me x >>= end_slot text.types program run me level x)
  slot_ends w names seen x b d e =
      on_either (ended_form b.mode (has_function_type b.ty) (copyable (Of b.ty)) e)
      (λ f. value_ends (subst (λ z. HomeKind z (own_shape b.mode (Of b.ty)) (is_in names x) (seen.frame.kinds x)) f (seen.home x b d)))
      (λ f. then_l (slot_k w me x seen.frame seen.there) (λ slot q.
      bare_ends (seen.frame.kinds x) slot (subst (λ z. HomeKind z (own_shape b.mode (Of b.ty)) (is_in names x) (seen.frame.kinds x)) f (seen.home x b d)) q))
    where
      deep_here : Deep here (Of b.ty)
      deep_here = deep_type w (record { names = names; breaks = false; continues = false }) seen b.ty (facts.known.bindings x b d)

      own : own_shape b.mode (Of b.ty) ≡ Of b.ty
      own = own_other b.mode (Of b.ty) (not_init b.mode e)

      bare_ends : (kd : Kind) (slot : Slot) → IsBare kd → SlotFits kd slot → Keeps (In w) (λ u. Unit {0}) (end_slot text.types program run me level x slot)
      bare_ends kd absent h q = pure_l tt tt
      bare_ends kd (refers l) h q = pure_l tt tt
      bare_ends kd (runs j m) h q = pure_l tt tt
      bare_ends bare (holds v) h q = absurd q
      bare_ends (stands_for l s) (holds v) h q = absurd q
      bare_ends (calls j m) (holds v) h q = absurd q
      bare_ends (maybe s) (holds v) h q = absurd h
      bare_ends (owns s) (holds v) h q = absurd h

      held_ends : (v : World) (f : Frame) → slice_get v me ≡ Some f → f.kinds x ≡ owns (Of b.ty) → (u : Val) → Keeps (In v) (λ u. Unit {0}) (end_slot text.types program run me level x (holds u))
      held_ends v f t q u =
          then_l (known_some {Q = λ (s : Shape). s ≡ Of b.ty} (slice_get program.bindings x) b (λ b. pure (text.types.shape b.ty)) d (pure_l (Of b.ty) refl)) (λ s r.
          subst (λ z. Keeps (In v) (λ u. Unit {0}) (end_value program run z (root_at me (binding x)) level)) (sym r)
          (ended_k v (Of b.ty) (root_at me (binding x)) deep_here (record { frame = f; there = t; root = Of b.ty; rooted = q; has = tt; shape = refl })))

      owned_ends : (slot : Slot) → SlotFits (owns (Of b.ty)) slot → seen.frame.kinds x ≡ owns (Of b.ty) → Keeps (In w) (λ u. Unit {0}) (end_slot text.types program run me level x slot)
      owned_ends (holds v) h q = held_ends w seen.frame seen.there q v
      owned_ends absent h q = absurd h
      owned_ends (refers l) h q = absurd h
      owned_ends (runs j m) h q = absurd h

      now_owns : with_at x (owns (Of b.ty)) seen.frame.kinds x ≡ owns (Of b.ty)
      now_owns = ap (λ z. if z then owns (Of b.ty) else seen.frame.kinds x) ((Decides-eqb x x).1 refl)

      value_ends : (seen.frame.kinds x ≡ maybe (own_shape b.mode (Of b.ty))) ⊎ (seen.frame.kinds x ≡ owns (own_shape b.mode (Of b.ty)))
          → Keeps (In w) (λ u. Unit {0}) (slot_at me x >>= end_slot text.types program run me level x)
      value_ends (inl q) =
          look_at w me x seen.frame seen.there (Of b.ty) (q ∙ ap maybe own) (pure_l tt tt) (λ v.
          lead_to (held_ends (slice_set w me (with_kind x (owns (Of b.ty)) seen.frame)) (with_kind x (owns (Of b.ty)) seen.frame)
          (get_set w me seen.frame (with_kind x (owns (Of b.ty)) seen.frame) seen.there) now_owns v)
          (λ st i. fewer_made w me seen.frame (with_kind x (owns (Of b.ty)) seen.frame) st seen.there
          (with_kind_grows seen.frame x (owns (Of b.ty)) (subst (λ z. KindGrows z (owns (Of b.ty))) (sym (q ∙ ap maybe own)) (inr refl))) i))
      value_ends (inr q) =
          then_l (slot_k w me x seen.frame seen.there) (λ slot h. owned_ends slot (subst (λ z. SlotFits z slot) (q ∙ ap owns own) h) (q ∙ ap owns own))

  slot_of_ended : (w : World) (names : List ℕ) (seen : SeenAt w names) (x : ℕ) (o : Option Binding) → slice_get program.bindings x ≡ o → ends o ≡ true
      → Keeps (In w) (λ u. Unit {0}) (slot_at me x >>= end_slot text.types program run me level x)
  slot_of_ended w names seen x None d e = no_yes e
  slot_of_ended w names seen x (Some b) d e = slot_ends w names seen x b d e

  end_all_k : (w : World) (names : List ℕ) (seen : SeenAt w names) (xs : List ℕ) → Keeps (In w) (λ u. Unit {0}) (end_all text.types program run me level (ended program.bindings xs))
  end_all_k w names seen [] = pure_l tt tt
  end_all_k w names seen (x ∷ xs) = by (ends (slice_get program.bindings x)) refl (end_all_k w names seen xs)
    where
      by : (b : Bool) → ends (slice_get program.bindings x) ≡ b → Keeps (In w) (λ u. Unit {0}) (end_all text.types program run me level (ended program.bindings xs))
          → Keeps (In w) (λ u. Unit {0}) (end_all text.types program run me level (if b then x ∷ ended program.bindings xs else ended program.bindings xs))
      by true e h = assoc_l (end_all text.types program run me level (ended program.bindings xs)) (slot_at me x) (end_slot text.types program run me level x) (next_l h (slot_of_ended w names seen x (slice_get program.bindings x) refl e))
      by false e h = h

  pub leave_k : (w : World) (g : Site) (names : List ℕ) (seen : SeenAt w names) (xs : List ℕ) (f : Flow) → IsWay g f → Keeps (In w) (IsWay g) (leave_scope text.types program run me level xs f)
  leave_k w g names seen xs f h = next_l (end_all_k w names seen xs) (pure_l f h)

  -- ---- a statement, and what is seen after it

  pub record After (w : World) (g : Site) (more : List ℕ) (step : Act Flow) : Type 0 where
    pub world : World
    pub seen : SeenAt world (more ++ g.names)
    pub leads : Leads (In w) (IsWay g) (In world) step
    pub back : (s : State) → In world s → In w s

  stays : (w : World) (g : Site) (seen : SeenAt w g.names) {step : Act Flow} → Keeps (In w) (IsWay g) step → After w g [] step
  stays w g seen h = record { world = w; seen = seen; leads = h; back = λ s i. i }

  local_shape : (x : ℕ) (h : LocalSteady here k x) → own_shape h.binding.mode (Of h.binding.ty) ≡ Of h.binding.ty
  local_shape x h = own_other h.binding.mode (Of h.binding.ty) h.mode

  made_k : (w : World) (g : Site) (seen : SeenAt w g.names) (x : ℕ) (h : LocalSteady here k x) → Made here n me k ret w g.names x (Of h.binding.ty)
  made_k w g seen x h = value_made here run me level n k ret w g.names seen x h.binding h.declared h.body h.form (local_shape x h)

  name_type : (x : ℕ) (h : LocalSteady here k x) (ty : Ty) → NamesOf text program k x ty → h.binding.ty ≡ ty
  name_type x h ty q = ap (λ (z : Binding). z.ty) (some_same h.binding q.0 (sym h.declared ∙ (q.1).0)) ∙ q.2

  let_k : (w : World) (g : Site) (seen : SeenAt w g.names) (at : At) (x : ℕ) (e : TExp) → StmKnown text program k (let_in at x e) → StmSteady here k g (let_in at x e)
      → After w g (x ∷ []) (exec text.types program run me level depth (let_in at x e))
  let_k w g seen at x e h s =
      let m = made_k w g seen x s.1 in
      record {
        world = m.world;
        seen = m.seen;
        leads = then_l (value_k w g seen e h.0 s.0) (λ v q.
            next_l (m.leads v (subst (λ z. Fits (Of z) v) (sym (name_type x s.1 (node_of e).ty h.1)) q.0)) (pure_l onward tt));
        back = m.back;
      }

  declare_k : (w : World) (g : Site) (seen : SeenAt w g.names) (at : At) (x : ℕ) → StmSteady here k g (declare at x)
      → After w g (x ∷ []) (exec text.types program run me level depth (declare at x))
  declare_k w g seen at x s =
      let m = made_k w g seen x s in
      record {
        world = m.world;
        seen = m.seen;
        leads = then_l (known_some {Q = λ (z : Shape). z ≡ Of s.binding.ty} (slice_get program.bindings x) s.binding (λ b. pure (text.types.shape b.ty)) s.declared (pure_l (Of s.binding.ty) refl)) (λ z q.
            next_l (m.leads (vacant z) (subst (λ y. Fits y (vacant z)) q (vacant_fits z))) (pure_l onward tt));
        back = m.back;
      }

  assign_k : (w : World) (g : Site) (seen : SeenAt w g.names) (at : At) (p : TypedPath) (e : TExp) → StmKnown text program k (assign at p e) → StmSteady here k g (assign at p e)
      → Keeps (In w) (IsWay g) (exec text.types program run me level depth (assign at p e))
  assign_k w g seen at p e h s =
      next_l
      (then_l (held_k w g seen e h.1 s.0 s.1) (λ from t.
      then_l (place_of w g seen p h.0 s.2) (λ l q.
      then_l (next_l (ended_k w (Of p.at.ty) l (deep_type w g seen p.at.ty (h.0).3) q) (move_k w from (Of (node_of e).ty) t)) (λ v r.
      put_k w l (Of p.at.ty) v q (subst (λ z. Fits (Of z) v) h.2 r.0)))))
      (pure_l onward tt)

  update_k : (w : World) (g : Site) (seen : SeenAt w g.names) (at : At) (p : TypedPath) (o : Arith) (mark : Span) (e : TExp) → StmKnown text program k (update at p o mark e)
      → StmSteady here k g (update at p o mark e) → Keeps (In w) (IsWay g) (exec text.types program run me level depth (update at p o mark e))
  update_k w g seen at p o mark e h s =
      then_l (int_k text program node_type outer facts run keep me level n k ret w g seen (node_of e).ty h.3 (value_k w g seen e h.1 s.0)) (λ y u.
      then_l (place_of w g seen p h.0 s.1) (λ l q.
      let t = subst (λ z. Stands w l z) (ap text.types.shape h.2 ∙ facts.basic.ints) q in
      then_l (then_l (read_k w l shape.number t) (λ v r. as_int_k (In w) v r)) (λ x v.
      next_l (then_l (computed_k (In w) o mark.start x y) (λ z r. put_k w l shape.number z t r.0)) (pure_l onward tt))))

  -- what is tracked and whole has its number
  forget_k : (w : World) (s : Shape) (v : Val) → tracked s ≡ true → IsGood s v → Keeps (In w) (λ u. Unit {0}) (forget v)
  forget_k w (shape.struct head fields) (struct type (Some i) vs) t h = note_k w _
  forget_k w (shape.struct head fields) (struct type None vs) t h = absurd (subst (λ d. IsNumbered d None) t (h.0).1)
  forget_k w (shape.struct head fields) (variant present vs) t h = absurd h.0
  forget_k w (shape.struct head fields) (int m) t h = absurd h.0
  forget_k w (shape.struct head fields) (bool b) t h = absurd h.0
  forget_k w (shape.struct head fields) unit t h = absurd h.0
  forget_k w (shape.struct head fields) hole t h = no_yes h.1
  forget_k w (shape.enum head cases) v t h = no_yes t
  forget_k w shape.number v t h = no_yes t
  forget_k w shape.truth v t h = no_yes t
  forget_k w shape.no_value v t h = no_yes t
  forget_k w shape.closure v t h = no_yes t

  discard_k : (w : World) (g : Site) (seen : SeenAt w g.names) (at : At) (p : Place) → StmKnown text program k (discard_self at p) → StmSteady here k g (discard_self at p)
      → Keeps (In w) (IsWay g) (exec text.types program run me level depth (discard_self at p))
  discard_k w g seen at p h s =
      let b = (h.0).0 in
      let d = ((h.0).1).0 in
      next_l (then_l (then_l (place_k here run me level w n k ret g seen p b (Of b.ty) d s.0 (ap (shape_in (Of b.ty)) h.1)) (λ l t. move_k w l (Of b.ty) t)) (λ v q.
      forget_k w (Of b.ty) v (s.1 b d) q)) (pure_l onward tt)

  -- ---- a `switch`

  subject_k : (w : World) (g : Site) (seen : SeenAt w g.names) (e : TExp) → ExpKnown text program k e → ExpSteady here g e → Waits here (holder e)
      → Keeps (In w) (λ l. Stands w l (Of (node_of e).ty)) (subject text.types program run me level e)
  subject_k w g seen e h s q = by (is_copyable text.types (node_of e).ty) (path_of e) refl
    where
      by : (b : Bool) (o : Option TypedPath) → path_of e ≡ o → Keeps (In w) (λ l. Stands w l (Of (node_of e).ty)) (subject_at text.types program run me level b o e)
      by true o r = held_k w g seen e h s q
      by false None r = held_k w g seen e h s q
      by false (Some p) r =
          let known = path_known text program k e p h r in
          subst (λ z. Keeps (In w) (λ l. Stands w l (Of z)) (locate text.types program run me level p.place >>= λ l. read l >> pure l)) known.1
          (then_l (place_of w g seen p known.0 (path_steady here g e p r s)) (λ l t. next_l (read_k w l (Of p.at.ty) t) (pure_l l t)))

  abbrev Goes : World → Site → Act Flow → Type 0
  Goes w g step = Keeps (In w) (IsWay g) step

  apart_k : (w : World) (g : Site) (seen : SeenAt w g.names) (bound : ℕ → ℕ) (b : Bool) (p : TPat) (names : List ℕ) (e : TExp) (l : Location) → Stands w l (Of (node_of e).ty) → IsTypeHere text program (node_of e).ty
      → PatSteady here bound k names p (Of (node_of e).ty) → Keeps (In w) (λ u. Unit {0}) (take_apart text.types program run me level b p e l)
  apart_k w g seen bound true p names e l t o h =
      next_l (end_rest_k here run keep facts.steady.deinits bound k w p names (Of (node_of e).ty) l level h t (deep_type w g seen (node_of e).ty o)) (vacate_k w l (Of (node_of e).ty) t)
  apart_k w g seen bound false p names e l t o h = pure_l tt tt

  whole_k : (w : World) (g : Site) (more : List ℕ) {step : Act Flow} → After w g more step → Goes w g step
  whole_k w g more a = lead_to a.leads a.back

  -- what is known of the pattern that a head chooses
  abbrev HeadPat : Site → TWhen → TExp → TPat → Type 0
  HeadPat g (case_of ps) e p = PatSteady here (itself here) k g.names p (Of (node_of e).ty) × (pattern_bindings p ≡ patterns_bindings ps)
  HeadPat g (case_where q guard) e p = q ≡ p
  HeadPat g default e p = any ≡ p

  chosen_fits : (g : Site) (head : TWhen) (e : TExp) (v : Val) → HeadSteady here k g head e → Fits (Of (node_of e).ty) v → FoundIs (OfChosen (HeadPat g head e)) (chosen head v)
  chosen_fits g (case_of ps) e v h f = first_fits here k ps g.names (patterns_bindings ps) (Of (node_of e).ty) v h f
  chosen_fits g (case_where p guard) e v h f = guarded_fits here k p g.names (Of (node_of e).ty) v h.0 f
  chosen_fits g default e v h f = refl

  -- a clause whose names are bound once
  once_k : (w : World) (g : Site) (ns : List ℕ) (seen : SeenAt w (ns ++ g.names)) (twice : Bool) (bound : ℕ → ℕ) (p : TPat) (names : List ℕ) (e : TExp) (l : Location) (xs : List ℕ) {inner : Act Flow}
      → Stands w l (Of (node_of e).ty) → IsTypeHere text program (node_of e).ty → PatSteady here bound k names p (Of (node_of e).ty) → Goes w g inner
      → Goes w g (take_apart text.types program run me level twice p e l >> (inner >>= λ f. leave_scope text.types program run me level xs f))
  once_k w g ns seen twice bound p names e l xs t o h inner =
      next_l (apart_k w (with_names ns g) seen bound twice p names e l t o h) (then_l inner (λ f q. leave_k w g (ns ++ g.names) seen xs f q))

  plain_k : (w : World) (g : Site) (seen : SeenAt w g.names) (twice : Bool) (p : TPat) (ns : List ℕ) (e : TExp) (l : Location) (xs : List ℕ) (inner next : Act Flow)
      → Stands w l (Of (node_of e).ty) → IsTypeHere text program (node_of e).ty → PatSteady here (itself here) k g.names p (Of (node_of e).ty) → pattern_bindings p ≡ ns
      → ((v : World) → SeenAt v (ns ++ g.names) → Goes v g inner)
      → Goes w g (bind_all text.types program run me level (bound_parts p []) l >> (pure true >>= λ go.
      pick go (bind_all text.types program run me level [] l >> (take_apart text.types program run me level twice p e l >> (inner >>= λ f. leave_scope text.types program run me level xs f))) next))
  plain_k w g seen twice p ns e l xs inner_ next_ t o h q inner =
      let r = pattern_k here run me level n k ret w g.names seen l (Of (node_of e).ty) t p h in
      let seen_ = subst (λ z. SeenAt r.world (z ++ g.names)) q r.seen in
      next_l r.leads (lead_to (true_then _ next_ (nothing_then (once_k r.world g ns seen_ twice (itself here) p g.names e l xs (stands_grows w r.world l (Of (node_of e).ty) r.grows t) o h (inner r.world seen_)))) r.back)

  guarded_k : (w : World) (g : Site) (seen : SeenAt w g.names) (twice : Bool) (p : TPat) (guard : TExp) (e : TExp) (l : Location) (xs : List ℕ) {inner next : Act Flow}
      → Stands w l (Of (node_of e).ty) → IsTypeHere text program (node_of e).ty → PatSteady here (itself here) k g.names p (Of (node_of e).ty)
      → ConditionKnown text program k guard → ExpSteady here (with_names (pattern_bindings p) g) guard → TwiceSteady here twice k g.names p (Of (node_of e).ty)
      → ((v : World) → SeenAt v (clause_names twice (case_where p guard) ++ g.names) → Goes v g inner) → Goes w g next
      → Goes w g (bind_all text.types program run me level (bound_parts p []) l >> (test text.types program run me level guard >>= λ go.
      pick go (bind_all text.types program run me level (late_parts twice (case_where p guard) (bound_parts p [])) l
      >> (take_apart text.types program run me level twice p e l >> (inner >>= λ f. leave_scope text.types program run me level xs f))) next))
  guarded_k w g seen false p guard e l xs t o h known steady second inner next =
      let r = pattern_k here run me level n k ret w g.names seen l (Of (node_of e).ty) t p h in
      next_l r.leads (then_l (test_k r.world (with_names (pattern_bindings p) g) r.seen guard known steady) (λ go u. pick_l go
      (λ z. lead_to (nothing_then (once_k r.world g (pattern_bindings p) r.seen false (itself here) p g.names e l xs (stands_grows w r.world l (Of (node_of e).ty) r.grows t) o h (inner r.world r.seen))) r.back)
      (λ z. lead_from r.back next)))
  guarded_k w g seen true p guard e l xs t o h known steady second inner next =
      let r = pattern_k here run me level n k ret w g.names seen l (Of (node_of e).ty) t p h in
      let q = second_k here run me level n k ret w g.names seen l (Of (node_of e).ty) t p second in
      next_l r.leads (then_l (test_k r.world (with_names (pattern_bindings p) g) r.seen guard known steady) (λ go u. pick_l go
      (λ z. lead_from r.back (next_l q.leads (lead_to
      (once_k q.world g (map suc (pattern_bindings p)) q.seen true suc p g.names e l xs (stands_grows w q.world l (Of (node_of e).ty) q.grows t) o second (inner q.world q.seen)) q.back)))
      (λ z. lead_from r.back next)))

  clause_k : (w : World) (g : Site) (seen : SeenAt w g.names) (head : TWhen) (e : TExp) (l : Location) (ss : TStms) (inner next : Act Flow)
      → Stands w l (Of (node_of e).ty) → IsTypeHere text program (node_of e).ty → WhenKnown text program k head → HeadSteady here k g head e
      → ((v : World) → SeenAt v (clause_names (binds_twice text.types program e) head ++ g.names) → Goes v g inner) → Goes w g next
      → (o : Option TPat) → OfChosen (HeadPat g head e) o
      → Goes w g (clause_or text.types program run me level e head o l (clause_names (binds_twice text.types program e) head ++ locals ss) inner next)
  clause_k w g seen head e l ss inner_ next_ t o known steady inner next None h = next
  clause_k w g seen (case_of ps) e l ss inner_ next_ t o known steady inner next (Some p) h =
      plain_k w g seen (binds_twice text.types program e) p (patterns_bindings ps) e l (patterns_bindings ps ++ locals ss) inner_ next_ t o h.0 h.1 inner
  clause_k w g seen (case_where q guard) e l ss inner_ next_ t o known steady inner next (Some p) h =
      subst (λ z. Goes w g (clause_or text.types program run me level e (case_where q guard) (Some z) l (clause_names (binds_twice text.types program e) (case_where q guard) ++ locals ss) inner_ next_)) h
      (guarded_k w g seen (binds_twice text.types program e) q guard e l (clause_names (binds_twice text.types program e) (case_where q guard) ++ locals ss) t o steady.0 (known.1, known.2) steady.1 steady.2 inner next)
  clause_k w g seen default e l ss inner_ next_ t o known steady inner next (Some p) h =
      subst (λ z. Goes w g (clause_or text.types program run me level e default (Some z) l (clause_names (binds_twice text.types program e) default ++ locals ss) inner_ next_)) h
      (plain_k w g seen (binds_twice text.types program e) any [] e l (locals ss) inner_ next_ t o tt refl inner)

  then_go_k : (v w : World) (g : Site) (f : Flow) {next : Act Flow} → IsWay g f → ((s : State) → In v s → In w s) → Goes v g next → Leads (In v) (IsWay g) (In w) (then_go f next)
  then_go_k v w g onward h back next = lead_to next back
  then_go_k v w g (broke at) h back next = lead_to (pure_l (broke at) h) back
  then_go_k v w g (continued at) h back next = lead_to (pure_l (continued at) h) back
  then_go_k v w g (returned at) h back next = lead_to (pure_l (returned at) tt) back

  result_stands : (w : World) (names : List ℕ) (seen : SeenAt w names) → Stands w (root_at me result) (Of ret)
  result_stands w names seen = record { frame = seen.frame; there = seen.there; root = Of ret; rooted = seen.result; has = tt; shape = refl }

  returned_k : (w : World) (g : Site) (seen : SeenAt w g.names) (at : Span) (e : TExp) → ExpKnown text program k e → ExpSteady here g e → (node_of e).ty ≡ ret
      → Goes w g (eval text.types program run me level e >>= put (root_at me result) >> pure (returned at))
  returned_k w g seen at e h s q =
      next_l (then_l (value_k w g seen e h s) (λ v r. put_k w (root_at me result) (Of ret) v (result_stands w g.names seen) (subst (λ z. Fits (Of z) v) q r.0))) (pure_l (returned at) tt)

  back_type : (ty : Ty) → GivesBack text program k ty → ty ≡ ret
  back_type ty h = sym h.2 ∙ ap (λ (b : TBody). b.result) (some_same h.0 body (sym h.1 ∙ bodied)) ∙ gives_back

  mutual
    pub exec_k : (s : TStm) → StmKnown text program k s → (w : World) (g : Site) (seen : SeenAt w g.names) → StmSteady here k g s → After w g (names_after s) (exec text.types program run me level depth s)
    exec_k (let_in at x e) h w g seen s = let_k w g seen at x e h s
    exec_k (declare at x) h w g seen s = declare_k w g seen at x s
    exec_k (ignore at e) h w g seen s = stays w g seen (next_l (drop_k w g seen e h s.0 s.1) (pure_l onward tt))
    exec_k (assign at p e) h w g seen s = stays w g seen (assign_k w g seen at p e h s)
    exec_k (update at p o mark e) h w g seen s = stays w g seen (update_k w g seen at p o mark e h s)
    exec_k (discard_self at p) h w g seen s = stays w g seen (discard_k w g seen at p h s)
    exec_k (if_then at c a) h w g seen s =
        stays w g seen (then_l (test_k w g seen c h.0 s.0) (λ b u. pick_l b (λ z. exec_block_k a h.1 w g seen s.1) (λ z. pure_l onward tt)))
    exec_k (if_else at c a b) h w g seen s =
        stays w g seen (then_l (test_k w g seen c h.0 s.0) (λ x u. pick_l x (λ z. exec_block_k a h.1 w g seen s.1) (λ z. exec_block_k b h.2 w g seen s.2)))
    exec_k (else_if at c a b) h w g seen s =
        stays w g seen (then_l (test_k w g seen c h.0 s.0) (λ x u. pick_l x (λ z. exec_block_k a h.1 w g seen s.1) (λ z. whole_k w g (names_after b) (exec_k b h.2 w g seen s.2))))
    exec_k (loop_while at c a) h w g seen s = stays w g seen (while_k w g depth (test_k w g seen c h.0 s.0) (exec_block_k a h.1 w (in_a_loop g) seen s.1))
    exec_k (loop_repeat at a c) h w g seen s = stays w g seen (repeat_k w g depth (test_k w g seen c h.1 s.1) (exec_block_k a h.0 w (in_a_loop g) seen s.0))
    exec_k (loop_for at x low o mark high a) h w g seen s =
        stays w g seen
        (then_l (int_k text program node_type outer facts run keep me level n k ret w g seen (node_of low).ty (h.1).1 (value_k w g seen low (h.1).0 s.0)) (λ i u.
        then_l (int_k text program node_type outer facts run keep me level n k ret w g seen (node_of high).ty (h.2).1 (value_k w g seen high (h.2).0 s.1)) (λ j v.
        pick_l (int_lt j i) (λ z. trap_l _ _) (λ z. for_k w g depth (λ m. exec_turn_k x m a h.0 h.3 w g seen s.2 s.3) i (last_of o j)))))
    exec_k (switch at e cs) h w g seen s =
        stays w g seen (then_l (subject_k w g seen e h.0 s.0 s.1) (λ l t.
        then_l (exec_clauses_k cs e l h.0 h.1 w (in_a_switch g) seen t s.2) (λ f q. pure_l (caught f) (caught_way w g f q))))
    exec_k (leave at) h w g seen s = stays w g seen (pure_l (broke at.span) s)
    exec_k (go_on at) h w g seen s = stays w g seen (pure_l (continued at.span) s)
    exec_k (return_none at) h w g seen s = stays w g seen (pure_l (returned at.span) tt)
    exec_k (return_value at e) h w g seen s = stays w g seen (returned_k w g seen at.span e h.0 s (back_type (node_of e).ty h.1))
    exec_k (evaluate at e) h w g seen s = stays w g seen (next_l (drop_k w g seen e h s.0 s.1) (pure_l onward tt))

    exec_all_k : (ss : TStms) → StmsKnown text program k ss → (w : World) (g : Site) (seen : SeenAt w g.names) → StmsSteady here k g ss → Goes w g (exec_all text.types program run me level depth ss)
    exec_all_k no_stms h w g seen s = pure_l onward tt
    exec_all_k (stm b ss) h w g seen s =
        let a = exec_k b h.0 w g seen s.0 in
        then_l a.leads (λ f q. then_go_k a.world w g f q a.back (exec_all_k ss h.1 a.world (with_names (names_after b) g) a.seen s.1))

    exec_block_k : (b : TBlk) → BlkKnown text program k b → (w : World) (g : Site) (seen : SeenAt w g.names) → BlkSteady here k g b → Goes w g (exec_block text.types program run me level depth b)
    exec_block_k (block at ss) h w g seen s = then_l (exec_all_k ss h w g seen s) (λ f q. leave_k w g g.names seen (locals ss) f q)

    exec_turn_k : (x : Option ℕ) (m : ℤ) (b : TBlk) → TurnKnown text program k x → BlkKnown text program k b → (w : World) (g : Site) (seen : SeenAt w g.names) → TurnSteady here k x
        → BlkSteady here k (in_a_loop (with_names (turn_names x) g)) b → Goes w (in_a_loop g) (exec_turn text.types program run me level depth x m b)
    exec_turn_k None m (block at ss) t h w g seen l s = then_l (exec_all_k ss h w (in_a_loop (with_names [] g)) seen s) (λ f q. leave_k w (in_a_loop g) g.names seen (locals ss) f q)
    exec_turn_k (Some x) m (block at ss) t h w g seen l s =
        let r = made_k w g seen x l in
        then_l (next_l (r.leads (int m) (subst (λ z. Fits z (int m)) (sym (ap text.types.shape (name_type x l type.Int t) ∙ facts.basic.ints)) tt))
        (lead_to (exec_all_k ss h r.world (in_a_loop (with_names (x ∷ []) g)) r.seen s) r.back)) (λ f q. leave_k w (in_a_loop g) g.names seen (x ∷ locals ss) f q)

    exec_clauses_k : (cs : TClauses) (e : TExp) (l : Location) → ExpKnown text program k e → ClausesKnown text program k cs → (w : World) (g : Site) (seen : SeenAt w g.names) → Stands w l (Of (node_of e).ty)
        → ClausesSteady here k g cs e → Goes w g (exec_clauses text.types program run me level depth cs e l)
    exec_clauses_k no_clauses e l ke h w g seen t s = err_l
    exec_clauses_k (clause span head ss cs) e l ke h w g seen t s =
        then_l (peek_k w l (Of (node_of e).ty) t) (λ v f. then_l (or_found_l (chosen head v) (chosen_fits g head e v s.0 f)) (λ o q.
        clause_k w g seen head e l ss (exec_all text.types program run me level depth ss) (exec_clauses text.types program run me level depth cs e l) t (type_here text program k e ke) h.0 s.0
        (λ v seen_. exec_all_k ss h.1 v (with_names (clause_names (binds_twice text.types program e) head) g) seen_ s.1)
        (exec_clauses_k cs e l ke h.2 w g seen t s.2) o q))

  pub exec_body_k : (is_value : Bool) (b : TBlk) → BlkKnown text program k b → (w : World) (g : Site) (seen : SeenAt w g.names) → BlkSteady here k g b → ResultSteady here is_value ret b
      → Goes w g (exec_body text.types program run me level depth is_value b)
  exec_body_k true (block at (stm (evaluate node e) no_stms)) h w g seen s r = returned_k w g seen (node_of e).span e h.0 ((s.0).0) r
  exec_body_k is_value b h w g seen s r = exec_block_k b h w g seen s
