-- No expression strays, where no call does: one induction over expressions.
use Rattle.std.proofs.Common.{◌≡◌, ℕ, zero, suc, Bool, true, false, not, List, [], ◌∷◌, map, Option, Some, None, inl, inr, refl, sym, ap, ◌∙◌, subst}
use Rattle.std.specs.Prelude.{◌&&◌, ◌+◌, ◌<◌, pos, ◌⊎◌, slice_get, if◌then◌else◌, IsTrue, Contains}
use Rattle.own_tree.specs.declared.arithmetic.Arith.TheVariants as arith
use Rattle.own_tree.specs.declared.place.Mode.TheVariants as mode
use Rattle.own_tree.specs.declared.place.Ty.{Ty}
use Rattle.own_tree.specs.declared.place.Ty.TheVariants as type
use Rattle.own_tree.specs.declared.typed.At.{At}
use Rattle.own_tree.specs.declared.typed.BodyKind.{BodyKind}
use Rattle.own_tree.specs.declared.typed.BodyKind.TheVariants as kind
use Rattle.own_tree.specs.declared.typed.ParamInfo.{ParamInfo}
use Rattle.own_tree.specs.declared.typed.Comparison.{Comparison}
use Rattle.own_tree.specs.declared.typed.Signature.{Signature}
use Rattle.own_tree.specs.declared.typed.Passing.{Passing}
use Rattle.own_tree.specs.declared.typed.Passing.TheVariants as passing
use Rattle.own_tree.specs.declared.typed.Target.{Target}
use Rattle.own_tree.specs.declared.typed.Target.TheVariants as target
use Rattle.own_tree.specs.declared.typed.TypedPath.{TypedPath}
use Rattle.own_tree.specs.TypedSource as typed
use Rattle.own_tree.specs.TypedSource.{TExp, number, truth, path, parenthesized, consumed, negated, inverted, arithmetic, wrapping, compared, logic, choice, member, call, address, closure, function, TExps, no_exps, exp, TBody, Program}
use Rattle.own_shapes.specs.Types.{Types, Shape, Shapes, Payloads, no_shapes, no_payloads, payloads, shape_in, property_shape, copyable, tracked, TypeHead, shapes_of, field_types, case_types, payloads_of, shape_at, is_part}
use Rattle.own_shapes.specs.Types as shape
use Rattle.own_shapes.specs.declared.info.FieldInfo.{FieldInfo}
use Rattle.own_paths.specs.Within.{node_of, path_of}
use Rattle.own_table.specs.Table.{AreWhole}
use Rattle.own_calls.specs.Arguments.{passing_of, is_function}
use Rattle.own_judged.specs.Calls.{memberwise, property_param, receiver_param}
use Rattle.own_judged.specs.Paths.{payload_param}
use Rattle.own_judged.specs.Bodies.{method_self}
use Rattle.own_judged.specs.Text.{Text, Callable, Method}
use Rattle.own_runs.specs.Arithmetic.{as_int, as_bool}
use Rattle.own_runs.specs.Calls.{holder, values_given, item_bytes, note_use, lend, lend_all, construct, locate, give, text_of, spaced, lend_place, pass_borrowed, pass_receiver, pass_inout, pass_closure, pass, apply, call_closure, end_lent}
use Rattle.own_runs.specs.Destruction.{Passed, given, lent, lent_temporary, closed, Call, end_value}
use Rattle.own_runs.specs.Events.{printed, line}
use Rattle.own_runs.specs.Run.{eval, eval_all, items, part_of}
use Rattle.own_runs.specs.Store.{Location, State, Act, hold, below, move, read, read_input}
use Rattle.own_runs.specs.Values.{Val, int, bool, unit, struct, variant, hole, Vals, no_vals, val, is_whole, all_whole, field, child, nth}
use Rattle.own_ways.specs.Ways.{◌>>=◌, ◌>>◌}
use Rattle.own_known.specs.Known.{IsTypeHere, PathKnown, ExpKnown, ExpsKnown, CallKnown, ClosureKnown, AllSuit, IsBodyOf, ProgramKnown, Has, BothHave, self_param}
use Rattle.own_steady.specs.Fits.{IsNumbered, Fits, AllFit, IsGood, HasShape, HasPart, FoundIs}
use Rattle.own_steady.specs.Programs.{AreBasic, setting, ParamsWritten, ProgramSteady}
use Rattle.own_steady.specs.Steady.{Form, a_value, a_place, a_closure, form_for, form, Setting, Site, AreWritten, is_in, Waits, PlaceSteady, LentSteady, ChangedSteady, InoutSteady, ClosureSteady, ArgSteady, ItemSteady, CallSteady, ExpSteady, ArgsSteady, ItemsSteady, OuterSteady, form_by, IsEquality}
use Rattle.own_steady.specs.Ways.{Keeps}
use Rattle.own_steady.specs.Worlds.{World, Stands}
use Rattle.own_steady.proofs.Destroying.{Makes, Enters, Callee, CallsKeep, Deep, end_k}
use Rattle.own_steady.proofs.Forms.{PassedFor, takes_all, takes_self, params_for}
use Rattle.own_steady.proofs.Names.{place_k, take_value_k, closure_k}
use Rattle.own_steady.proofs.Numbers.{as_int_k, as_bool_k, computed_k, wrapped_k, numbers_k, truths_k, connected_k, spelled_number_k, spelled_truth_k}
use Rattle.own_steady.proofs.Seeing.{SeesTo, IsPassed, Closes, ClosureBody, Seen, in_all, no_yes, closes_more, sees_more, ParamsFor, both}
use Rattle.own_steady.proofs.Shapes.{deep, property_there, case_there, contains_first, contains_later}
use Rattle.own_steady.proofs.Steps.{In, then_l, next_l, pure_l, pick_l, or_found_l, some_same, weaker, read_k, move_k, below_stands, hold_k, log_k}
use Rattle.own_steady.proofs.Values.{all_case}

first_same : (a b : Passing) (xs ys : List Passing) → a ∷ xs ≡ b ∷ ys → a ≡ b
first_same a b xs ys e = cc

rest_same : (a b : Passing) (xs ys : List Passing) → a ∷ xs ≡ b ∷ ys → xs ≡ ys
rest_same a b xs ys e = cc

-- all that is known of a program
pub record Facts (text : Text) (program : Program) (node_type : ℕ → Ty) (outer : ℕ → List ℕ) : Type 0 where
  pub basic : AreBasic text.types
  pub whole : AreWhole text.types
  pub known : ProgramKnown text program
  pub written : ParamsWritten text program
  pub steady : ProgramSteady text program node_type outer

-- a path in parentheses is known as it is without them
module _ (text : Text) (program : Program) where
  pub path_known : (k : ℕ) (e : TExp) (p : TypedPath) → ExpKnown text program k e → path_of e ≡ Some p → PathKnown text program k p × (p.at.ty ≡ (node_of e).ty)
  path_known k (path q) p h e = subst (λ z. PathKnown text program k z × (z.at.ty ≡ q.at.ty)) (same e) (h, refl)
    where
      same : Some q ≡ Some p → q ≡ p
      same e = cc
  path_known k (parenthesized at e) p h q = let r = path_known k e p h.0 q in (r.0, r.1 ∙ h.1)
  path_known k (number at n) p h e = absurd (cc)
  path_known k (typed.text at t) p h e = absurd (cc)
  path_known k (truth at b) p h e = absurd (cc)
  path_known k (consumed at q) p h e = absurd (cc)
  path_known k (negated at mark e) p h q = absurd (cc)
  path_known k (inverted at e) p h q = absurd (cc)
  path_known k (arithmetic at o mark a b) p h q = absurd (cc)
  path_known k (wrapping at o a b) p h q = absurd (cc)
  path_known k (compared at o a b) p h q = absurd (cc)
  path_known k (logic at o a b) p h q = absurd (cc)
  path_known k (choice at c a b) p h q = absurd (cc)
  path_known k (member at e i) p h q = absurd (cc)
  path_known k (call at to es passings) p h q = absurd (cc)
  path_known k (address r) p h q = absurd (cc)
  path_known k (closure at j) p h q = absurd (cc)
  path_known k (function at x) p h q = absurd (cc)

  pub holder_type : (k : ℕ) (e : TExp) → ExpKnown text program k e → (holder e).ty ≡ (node_of e).ty
  holder_type k (path q) h = refl
  holder_type k (parenthesized at e) h = holder_type k e h.0 ∙ h.1
  holder_type k (number at n) h = refl
  holder_type k (typed.text at t) h = refl
  holder_type k (truth at b) h = refl
  holder_type k (consumed at q) h = refl
  holder_type k (negated at mark e) h = refl
  holder_type k (inverted at e) h = refl
  holder_type k (arithmetic at o mark a b) h = refl
  holder_type k (wrapping at o a b) h = refl
  holder_type k (compared at o a b) h = refl
  holder_type k (logic at o a b) h = refl
  holder_type k (choice at c a b) h = refl
  holder_type k (member at e i) h = refl
  holder_type k (call at to es passings) h = refl
  holder_type k (address r) h = refl
  holder_type k (closure at j) h = refl
  holder_type k (function at x) h = refl

  -- an expression is of a type of the program
  pub type_here : (k : ℕ) (e : TExp) → ExpKnown text program k e → IsTypeHere text program (node_of e).ty
  type_here k (path q) h = h.3
  type_here k (parenthesized at e) h = subst (IsTypeHere text program) h.1 (type_here k e h.0)
  type_here k (number at n) h = subst (IsTypeHere text program) (sym h) tt
  type_here k (typed.text at t) h = subst (IsTypeHere text program) (sym h) tt
  type_here k (truth at b) h = subst (IsTypeHere text program) (sym h) tt
  type_here k (consumed at q) h = subst (IsTypeHere text program) (sym h.1) (h.0).3
  type_here k (negated at mark e) h = subst (IsTypeHere text program) (sym h.2) tt
  type_here k (inverted at e) h = subst (IsTypeHere text program) (sym h.2) tt
  type_here k (arithmetic at o mark a b) h = subst (IsTypeHere text program) (sym h.3) tt
  type_here k (wrapping at o a b) h = subst (IsTypeHere text program) (sym h.3) tt
  type_here k (compared at o a b) h = subst (IsTypeHere text program) (sym h.3) tt
  type_here k (logic at o a b) h = subst (IsTypeHere text program) (sym h.3) tt
  type_here k (choice at c a b) h = subst (IsTypeHere text program) (h.4).0 (type_here k a h.1)
  type_here k (member at e i) h = h.2
  type_here k (call at to es passings) h = h.1
  type_here k (address r) h = h.3
  type_here k (closure at j) h = h.1
  type_here k (function at x) h = h.1

module _ (text : Text) (program : Program) (node_type : ℕ → Ty) (outer : ℕ → List ℕ) (facts : Facts text program node_type outer)
    (run : Call) (keep : CallsKeep (setting text program node_type outer) run) (me level n k : ℕ) (ret : Ty)
    (w : World) (g : Site) (seen : Seen (setting text program node_type outer) n w me k ret g.names) where
  abbrev pub here : Setting
  here = setting text program node_type outer

  abbrev pub I : State → Type 0
  I = In w

  -- a value of a type
  abbrev pub Is : Ty → Val → Type 0
  Is ty v = IsGood (text.types.shape ty) v

  abbrev pub Value : TExp → Act Val
  Value e = eval text.types program run me level e

  number_of : (ty : Ty) → ty ≡ type.Int → text.types.shape ty ≡ shape.number
  number_of ty e = ap text.types.shape e ∙ facts.basic.ints

  truth_of : (ty : Ty) → ty ≡ type.Bool → text.types.shape ty ≡ shape.truth
  truth_of ty e = ap text.types.shape e ∙ facts.basic.truths

  retyped : {p : Act Val} (s t : Shape) → s ≡ t → Keeps I (IsGood s) p → Keeps I (IsGood t) p
  retyped {p} s t e h = subst (λ z. Keeps I (IsGood z) p) e h

  pub int_k : {p : Act Val} (ty : Ty) → ty ≡ type.Int → Keeps I (Is ty) p → Keeps I (λ n. Unit {0}) (p >>= as_int)
  int_k ty e h = then_l (retyped (text.types.shape ty) shape.number (number_of ty e) h) (λ v q. as_int_k I v q)

  pub bool_k : {p : Act Val} (ty : Ty) → ty ≡ type.Bool → Keeps I (Is ty) p → Keeps I (λ n. Unit {0}) (p >>= as_bool)
  bool_k ty e h = then_l (retyped (text.types.shape ty) shape.truth (truth_of ty e) h) (λ v q. as_bool_k I v q)

  pub path_k : (p : TypedPath) → PathKnown text program k p → PlaceSteady here g p.place → Keeps I (λ l. Stands w l (text.types.shape p.at.ty)) (locate text.types program run me level p.place)
  path_k p h s = place_k here run me level w n k ret g seen p.place h.0 (text.types.shape p.at.ty) (h.1).0 s h.2

  pub deep_of : (ty : Ty) → IsTypeHere text program ty → Deep here (text.types.shape ty)
  deep_of ty o = deep text program node_type outer facts.basic facts.whole ty o

  pub ended_k : (ty : Ty) (l : Location) → IsTypeHere text program ty → Stands w l (text.types.shape ty) → Keeps I (λ u. Unit {0}) (end_value program run (text.types.shape ty) l level)
  ended_k ty l o t = end_k here run keep facts.steady.deinits (text.types.shape ty) w l level t (deep_of ty o)

  -- a value waits at a node
  pub hold_at : (at : At) (v : Val) → Waits here at → Fits (text.types.shape at.ty) v → Keeps I (λ l. Stands w l (text.types.shape at.ty)) (hold me at v)
  hold_at at v h f = hold_k w me seen.frame at v (text.types.shape at.ty) seen.there (seen.waits at.id ∙ ap text.types.shape h) f

  pub wait_k : (e : TExp) {p : Act Val} → ExpKnown text program k e → Waits here (holder e) → Keeps I (Is (node_of e).ty) p
      → Keeps I (λ l. Stands w l (text.types.shape (node_of e).ty)) (p >>= hold me (holder e))
  wait_k e {p} o h q =
      then_l q (λ v f.
      subst (λ z. Keeps I (λ l. Stands w l (text.types.shape z)) (hold me (holder e) v)) (holder_type text program k e o)
      (hold_at (holder e) v h (subst (λ z. Fits (text.types.shape z) v) (sym (holder_type text program k e o)) f.0)))

  -- ---- what is lent

  abbrev Passes_ : ParamInfo → Passed → Type 0
  Passes_ p q = IsPassed here (suc n) w (form_for (passing_of text.types.shape p)) p.ty q

  abbrev Lendable : Passed → Type 0
  Lendable (lent l) = (s : Shape) × Stands w l s
  Lendable (lent_temporary s l) = Stands w l s × Deep here s
  Lendable (given l) = Unit {0}
  Lendable (closed body maker) = Unit {0}

  abbrev AllLendable : List Passed → Type 0
  AllLendable [] = Unit {0}
  AllLendable (p ∷ ps) = Lendable p × AllLendable ps

  note_use_k : (v : Val) → Keeps I (λ u. Unit {0}) (note_use v)
  note_use_k (struct type (Some i) vs) = record { comes = λ s i. (i, tt) }
  note_use_k (struct type None vs) = pure_l tt tt
  note_use_k (variant present vs) = pure_l tt tt
  note_use_k (int n) = pure_l tt tt
  note_use_k (bool b) = pure_l tt tt
  note_use_k unit = pure_l tt tt
  note_use_k hole = pure_l tt tt

  lend_k : (p : Passed) → Lendable p → Keeps I (λ u. Unit {0}) (lend p)
  lend_k (lent l) h = then_l (read_k w l h.0 h.1) (λ v q. note_use_k v)
  lend_k (lent_temporary s l) h = then_l (read_k w l s h.0) (λ v q. note_use_k v)
  lend_k (given l) h = pure_l tt tt
  lend_k (closed body maker) h = pure_l tt tt

  lend_all_k : (ps : List Passed) → AllLendable ps → Keeps I (λ u. Unit {0}) (lend_all ps)
  lend_all_k [] h = pure_l tt tt
  lend_all_k (p ∷ ps) h = next_l (lend_k p h.0) (lend_all_k ps h.1)

  end_lent_k : (ps : List Passed) → AllLendable ps → Keeps I (λ u. Unit {0}) (end_lent text.types program run me level ps)
  end_lent_k [] h = pure_l tt tt
  end_lent_k (lent_temporary s l ∷ ps) h = next_l (end_lent_k ps h.1) (end_k here run keep facts.steady.deinits s w l level (h.0).0 (h.0).1)
  end_lent_k (given l ∷ ps) h = end_lent_k ps h.1
  end_lent_k (lent l ∷ ps) h = end_lent_k ps h.1
  end_lent_k (closed body maker ∷ ps) h = end_lent_k ps h.1

  -- each with its parameter, and as it may be lent
  abbrev Args : List ParamInfo → List Passed → Type 0
  Args ps qs = PassedFor here (suc n) w ps qs × AllLendable qs

  lendable : (f : Form) (ty : Ty) (q : Passed) → IsTypeHere text program ty → IsPassed here (suc n) w f ty q → Lendable q
  lendable a_value ty (given l) o h = tt
  lendable a_value ty (lent l) o h = absurd h
  lendable a_value ty (lent_temporary s l) o h = absurd h
  lendable a_value ty (closed j m) o h = absurd h
  lendable a_place ty (given l) o h = absurd h
  lendable a_place ty (lent l) o h = (text.types.shape ty, h)
  lendable a_place ty (lent_temporary s l) o h = (subst (λ z. Stands w l z) (sym h.1) h.0, subst (Deep here) (sym h.1) (deep_of ty o))
  lendable a_place ty (closed j m) o h = absurd h
  lendable a_closure ty (given l) o h = absurd h
  lendable a_closure ty (lent l) o h = absurd h
  lendable a_closure ty (lent_temporary s l) o h = absurd h
  lendable a_closure ty (closed j m) o h = tt

  -- ---- how an argument is passed

  give_k : (e : TExp) {p : Act Val} → ExpKnown text program k e → Waits here (holder e) → Keeps I (Is (node_of e).ty) p
      → Keeps I (IsPassed here (suc n) w a_value (node_of e).ty) (give text.types program run me level e p)
  give_k e o h q = then_l (wait_k e o h q) (λ l t. pure_l (given l) t)

  lend_place_k : (p : TypedPath) → PathKnown text program k p → PlaceSteady here g p.place → Keeps I (IsPassed here (suc n) w a_place p.at.ty) (lend_place text.types program run me level p)
  lend_place_k p h s = then_l (path_k p h s) (λ l t. pure_l (lent l) t)

  borrowed_k : (o : Option TypedPath) (e : TExp) (is : Type 0) → path_of e ≡ o → ExpKnown text program k e → (is → Keeps I (Is (node_of e).ty) (Value e)) → LentSteady here g o e is
      → Keeps I (IsPassed here (suc n) w a_place (node_of e).ty) (pass_borrowed text.types program run me level o e (Value e))
  borrowed_k None e is q o value h = then_l (wait_k e o h.1 (value h.0)) (λ l t. pure_l (lent_temporary (text.types.shape (node_of e).ty) l) (t, refl))
  borrowed_k (Some p) e is q o value h =
      let r = path_known text program k e p o q in
      subst (λ z. Keeps I (IsPassed here (suc n) w a_place z) (lend_place text.types program run me level p)) r.1 (lend_place_k p r.0 h)

  receiver_k : (o : Option TypedPath) (e : TExp) → path_of e ≡ o → ExpKnown text program k e → ChangedSteady here g o
      → Keeps I (IsPassed here (suc n) w a_place (node_of e).ty) (pass_receiver text.types program run me level o)
  receiver_k None e q o h = absurd h
  receiver_k (Some p) e q o h =
      let r = path_known text program k e p o q in
      subst (λ z. Keeps I (IsPassed here (suc n) w a_place z) (lend_place text.types program run me level p)) r.1 (lend_place_k p r.0 h)

  inout_k : (e : TExp) → ExpKnown text program k e → InoutSteady here g e → Keeps I (IsPassed here (suc n) w a_place (node_of e).ty) (pass_inout text.types program run me level e)
  inout_k (address p) o h = lend_place_k p o h
  inout_k (path p) o h = receiver_k (Some p) (path p) refl o h
  inout_k (parenthesized at e) o h = receiver_k (path_of e) (parenthesized at e) refl o h
  inout_k (number at n) o h = absurd h
  inout_k (typed.text at bytes) o h = absurd h
  inout_k (truth at b) o h = absurd h
  inout_k (consumed at p) o h = absurd h
  inout_k (negated at mark e) o h = absurd h
  inout_k (inverted at e) o h = absurd h
  inout_k (arithmetic at m mark a b) o h = absurd h
  inout_k (wrapping at m a b) o h = absurd h
  inout_k (compared at m a b) o h = absurd h
  inout_k (logic at m a b) o h = absurd h
  inout_k (choice at c a b) o h = absurd h
  inout_k (member at e k) o h = absurd h
  inout_k (call at to es passings) o h = absurd h
  inout_k (closure at k) o h = absurd h
  inout_k (function at x) o h = absurd h

  closure_of_type : (at : At) (j : ℕ) → ClosureKnown text program k at j → ClosureBody here at.ty j
  closure_of_type at j h = record {
    function = h.0;
    is = h.3;
    signature = h.1;
    declared = h.4;
    body = h.2;
    there = h.5;
    round = k;
    kind = h.6;
    result = h.7;
    params = params_for text program node_type outer j (h.2).params (h.1).params h.8;
  }

  passed_closure_k : (e : TExp) → ExpKnown text program k e → ClosureSteady here g e → Keeps I (IsPassed here (suc n) w a_closure (node_of e).ty) (pass_closure text.types program run me level e)
  passed_closure_k (closure at j) o h =
      pure_l (closed j me) (record {
        body = closure_of_type at j o.0;
        captures = λ x b i d. seen.sees x b (in_all g.names (outer j) x h i) d;
      })
  passed_closure_k (function at x) o h =
      let name = o.0 in
      weaker (closure_k here run me level w n k ret g seen x name.0 ((name.1).0) h) (λ p q.
      subst (λ z. IsPassed here (suc n) w a_closure at.ty z) (sym q.2)
      (closes_more here n w at.ty q.0 q.1 (subst (λ z. Closes here (SeesTo here n w) z q.0 q.1) name.2 q.3)))
  passed_closure_k (address p) o h = absurd h
  passed_closure_k (path p) o h = absurd h
  passed_closure_k (parenthesized at e) o h =
      subst
      (λ z. Keeps I (IsPassed here (suc n) w a_closure z) (pass_closure text.types program run me level e))
      o.1 (passed_closure_k e o.0 h)
  passed_closure_k (number at n) o h = absurd h
  passed_closure_k (typed.text at bytes) o h = absurd h
  passed_closure_k (truth at b) o h = absurd h
  passed_closure_k (consumed at p) o h = absurd h
  passed_closure_k (negated at mark e) o h = absurd h
  passed_closure_k (inverted at e) o h = absurd h
  passed_closure_k (arithmetic at m mark a b) o h = absurd h
  passed_closure_k (wrapping at m a b) o h = absurd h
  passed_closure_k (compared at m a b) o h = absurd h
  passed_closure_k (logic at m a b) o h = absurd h
  passed_closure_k (choice at c a b) o h = absurd h
  passed_closure_k (member at e k) o h = absurd h
  passed_closure_k (call at to es passings) o h = absurd h

  arg_k : (how : Passing) (e : TExp) (is : Type 0) → ExpKnown text program k e → (is → Keeps I (Is (node_of e).ty) (Value e)) → ArgSteady here g how e is
      → Keeps I (IsPassed here (suc n) w (form_for how) (node_of e).ty) (pass text.types program run me level how e (Value e))
  arg_k passing.ByValue e is o value h = give_k e o h.1 (value h.0)
  arg_k passing.Consume e is o value h = give_k e o h.1 (value h.0)
  arg_k passing.Borrow e is o value h = borrowed_k (path_of e) e is refl o value h
  arg_k passing.Inout e is o value h = inout_k e o h
  arg_k passing.Closure e is o value h = passed_closure_k e o h

  -- ---- constructions

  abbrev Given : List Ty → List Passed → Type 0
  Given [] [] = Unit {0}
  Given (ty ∷ tys) (given l ∷ qs) = Stands w l (text.types.shape ty) × Given tys qs
  Given tys qs = ⊥

  values_k : (tys : List Ty) (qs : List Passed) → Given tys qs → Keeps I (λ vs. AllFit (shapes_of text.types.shape tys) vs × (all_whole vs ≡ true)) (values_given qs)
  values_k [] [] h = pure_l no_vals (tt, refl)
  values_k (ty ∷ tys) (given l ∷ qs) h =
      then_l (move_k w l (text.types.shape ty) h.0) (λ v q. then_l (values_k tys qs h.1) (λ vs r.
      pure_l (val v vs) ((q.0, r.0), ap (λ b. b && all_whole vs) q.1 ∙ r.1)))
  values_k [] (q ∷ qs) h = absurd h
  values_k (ty ∷ tys) [] h = absurd h
  values_k (ty ∷ tys) (lent l ∷ qs) h = absurd h
  values_k (ty ∷ tys) (lent_temporary s l ∷ qs) h = absurd h
  values_k (ty ∷ tys) (closed j m ∷ qs) h = absurd h

  pub construct_k : (head : TypeHead) (fields : Shapes) (t : ℕ) (vs : Vals) (b : Bool) → head.has_deinit ≡ b → t ≡ head.number → AllFit fields vs → all_whole vs ≡ true
      → Keeps I (IsGood (shape.struct head fields)) (construct b t vs)
  construct_k head fields t vs true e n f q =
      record { comes = λ s i. (i, ((n, subst (λ d. IsNumbered d (Some (s.births + 1))) (sym e) tt, f), q)) }
  construct_k head fields t vs false e n f q = pure_l _ ((n, subst (λ d. IsNumbered d None) (sym e) tt, f), q)

  -- ---- parts of a construction: none is a closure, and each is given

  plain_form : (ty : Ty) (c : Bool) → is_function ty ≡ false
      → form_for (if is_function ty then passing.Closure else if c then passing.ByValue else passing.Consume) ≡ a_value
  plain_form ty true e = ap (λ b. form_for (if b then passing.Closure else passing.ByValue)) e
  plain_form ty false e = ap (λ b. form_for (if b then passing.Closure else passing.Consume)) e

  part_function : (ty : Ty) → IsTrue (is_part text.types.count ty) → is_function ty ≡ false
  part_function type.Int h = refl
  part_function type.Bool h = refl
  part_function type.Unit h = refl
  part_function (type.Named t) h = refl
  part_function (type.Fun f) h = absurd (cc)

  given_one : (ty : Ty) (q : Passed) → IsPassed here (suc n) w a_value ty q → (l : Location) × (q ≡ given l) × Stands w l (text.types.shape ty)
  given_one ty (given l) h = (l, refl, h)
  given_one ty (lent l) h = absurd h
  given_one ty (lent_temporary s l) h = absurd h
  given_one ty (closed j m) h = absurd h

  given_more : (ty : Ty) (tys : List Ty) (q : Passed) (qs : List Passed) → IsPassed here (suc n) w a_value ty q → Given tys qs → Given (ty ∷ tys) (q ∷ qs)
  given_more ty tys q qs h r = let o = given_one ty q h in subst (λ z. Given (ty ∷ tys) (z ∷ qs)) (sym o.1) (o.2, r)

  given_fields : (fs : List FieldInfo) (qs : List Passed) → ((f : FieldInfo) → Contains fs f → IsTrue (is_part text.types.count f.ty))
      → PassedFor here (suc n) w (map (property_param text) fs) qs → Given (field_types fs) qs
  given_fields [] [] o h = tt
  given_fields [] (q ∷ qs) o h = absurd h
  given_fields (f ∷ fs) [] o h = absurd h
  given_fields (f ∷ fs) (q ∷ qs) o h =
      given_more f.ty (field_types fs) q qs
      (subst (λ z. IsPassed here (suc n) w z f.ty q) (plain_form f.ty (copyable (text.types.shape f.ty)) (part_function f.ty (o f (contains_first f fs)))) h.0)
      (given_fields fs qs (λ z c. o z (contains_later f z fs c)) h.1)

  given_payloads : (tys : List Ty) (qs : List Passed) → ((ty : Ty) → Contains tys ty → IsTrue (is_part text.types.count ty))
      → PassedFor here (suc n) w (map payload_param tys) qs → Given tys qs
  given_payloads [] [] o h = tt
  given_payloads [] (q ∷ qs) o h = absurd h
  given_payloads (ty ∷ tys) [] o h = absurd h
  given_payloads (ty ∷ tys) (q ∷ qs) o h =
      given_more ty tys q qs
      (subst (λ z. IsPassed here (suc n) w z ty q) (plain_form ty (copyable (text.types.shape ty)) (part_function ty (o ty (contains_first ty tys)))) h.0)
      (given_payloads tys qs (λ z c. o z (contains_later ty z tys c)) h.1)

  -- ---- what is called

  -- a body that sees no other name
  callee_of : (j : ℕ) (ty : Ty) (qs : List Passed) (body : TBody) → slice_get program.bodies j ≡ Some body → outer j ≡ []
      → Enters here (suc n) w j body.kind body.params qs body.result ty → Callee here (suc n) w j None qs ty
  callee_of j ty qs body d no_outer h = record {
    body = body;
    there = d;
    enters = h;
    captures = λ x b i e. no_yes (ap (λ z. is_in z x) (sym no_outer) ∙ i);
  }

  outer_none : (j : ℕ) (body : TBody) (which : BodyKind) → slice_get program.bodies j ≡ Some body → body.kind ≡ which → (OuterSteady here which (outer j) → outer j ≡ []) → outer j ≡ []
  outer_none j body which d e h = h (subst (λ z. OuterSteady here z (outer j)) e (facts.steady.bodies j body d).outer_names)

  function_callee : (c : Callable) (qs : List Passed) → IsBodyOf text program kind.Function None [] c → AreWritten c.params → PassedFor here (suc n) w c.params qs
      → Callee here (suc n) w c.body None qs c.result
  function_callee c qs h r q =
      callee_of c.body c.result qs h.0 h.1 (outer_none c.body h.0 kind.Function h.1 h.2 (λ o. o))
      (subst (λ z. Enters here (suc n) w c.body z (h.0).params qs (h.0).result c.result) (sym h.2)
      (takes_all here (suc n) w c.body (h.0).params c.params qs (params_for text program node_type outer c.body (h.0).params c.params h.5) r q, h.4))

  method_callee : (t : ℕ) (m : Method) (qs : List Passed)
      → IsBodyOf text program kind.Method (Some t) (self_param text program (method_self (copyable (text.types.shape (type.Named t))) m.mode) t ∷ []) m.callable
      → AreWritten m.callable.params → PassedFor here (suc n) w (receiver_param m.mode (type.Named t) ∷ m.callable.params) qs
      → Callee here (suc n) w m.callable.body None qs m.callable.result
  method_callee t m qs h r q =
      callee_of m.callable.body m.callable.result qs h.0 h.1 (outer_none m.callable.body h.0 kind.Method h.1 h.2 (λ o. o))
      (subst (λ z. Enters here (suc n) w m.callable.body z (h.0).params qs (h.0).result m.callable.result) (sym h.2) (
        takes_self text program node_type outer (suc n) w m.callable.body t m.mode (h.0).params m.callable.params qs
            (params_for text program node_type outer m.callable.body (h.0).params (self_param text program (method_self (copyable (text.types.shape (type.Named t))) m.mode) t ∷ m.callable.params) h.5) r q,
        h.4,
      ))

  init_form : (c : Bool) → form_by false false c false ≡ a_value
  init_form true = refl
  init_form false = refl

  makes_of : (j t : ℕ) (xs : List ℕ) (ps : List ParamInfo) (qs : List Passed) → ParamsFor here j xs (self_param text program mode.SelfInit t ∷ ps) → AreWritten ps
      → ((head : TypeHead) × (fields : Shapes) × (text.types.shape (type.Named t) ≡ shape.struct head fields)) → PassedFor here (suc n) w ps qs
      → Makes here (suc n) w j xs qs (type.Named t)
  makes_of j t [] ps qs h r s q = absurd h
  makes_of j t (x ∷ xs) ps qs h r s q =
      let b = (h.0).0 in (
        (
          b,
          (h.0).1,
          (h.0).2,
          (h.0).4,
          ap (λ y. form here (record b { ty = y })) (h.0).3 ∙ ap (λ y. form here (record b { ty = type.Named t; mode = y })) (h.0).4 ∙ init_form (copyable (text.types.shape (type.Named t))),
          (h.0).3,
          s,
        ),
        takes_all here (suc n) w j xs ps qs h.1 r q,
      )

  init_callee : (t : ℕ) (c : Callable) (qs : List Passed) → IsBodyOf text program kind.Initializer (Some t) (self_param text program mode.SelfInit t ∷ []) c → AreWritten c.params
      → ((head : TypeHead) × (fields : Shapes) × (text.types.shape (type.Named t) ≡ shape.struct head fields)) → PassedFor here (suc n) w c.params qs
      → Callee here (suc n) w c.body None qs (type.Named t)
  init_callee t c qs h r s q =
      callee_of c.body (type.Named t) qs h.0 h.1 (outer_none c.body h.0 kind.Initializer h.1 h.2 (λ o. o))
      (subst (λ z. Enters here (suc n) w c.body z (h.0).params qs (h.0).result (type.Named t)) (sym h.2)
      (makes_of c.body t (h.0).params c.params qs (params_for text program node_type outer c.body (h.0).params (self_param text program mode.SelfInit t ∷ c.params) h.5) r s q))

  closure_callee : (f : ℕ) (s : Signature) (ty : Ty) (j m : ℕ) (qs : List Passed) → ty ≡ type.Fun f → slice_get program.signatures f ≡ Some s → Closes here (SeesTo here n w) ty j m
      → PassedFor here (suc n) w s.params qs → Callee here (suc n) w j (Some m) qs s.result
  closure_callee f s ty j m qs e d c q =
      let same : c.body.signature ≡ s = some_same c.body.signature s (sym c.body.declared ∙ ap (slice_get program.signatures) (fun_same (sym c.body.is ∙ e)) ∙ d) in
      record {
        body = c.body.body;
        there = c.body.there;
        enters = subst (λ z. Enters here (suc n) w j z c.body.body.params qs c.body.body.result s.result) (sym c.body.kind) (
          takes_all here (suc n) w j c.body.body.params s.params qs (subst (λ z. ParamsFor here j c.body.body.params z.params) same c.body.params) (facts.written.signatures f s d) q,
          c.body.result ∙ ap (λ z. z.result) same,
        );
        captures = λ x b i h. (m, refl, sees_more here n w m x b (c.captures x b i h));
      }
    where
      fun_same : {a b : ℕ} → type.Fun a ≡ type.Fun b → a ≡ b
      fun_same q = cc

  -- ---- a call, its arguments evaluated

  after_args_k : (at : At) (to : Target) (es : TExps) (passings : List Passing) (ps : List ParamInfo) → Waits here at
      → Keeps I (Args ps) (eval_all text.types program run me level es passings)
      → ((qs : List Passed) → PassedFor here (suc n) w ps qs → Keeps I (Is at.ty) (apply text.types program run me level to qs))
      → Keeps I (Is at.ty) (eval_all text.types program run me level es passings >>= λ qs.
      lend_all qs >> apply text.types program run me level to qs >>= hold me at >>= λ l.
      end_lent text.types program run me level qs >> move l)
  after_args_k at to es passings ps h args applied =
      then_l args (λ qs q.
      then_l (then_l (next_l (lend_all_k qs q.1) (applied qs q.0)) (λ v r. hold_at at v h r.0)) (λ l t.
      next_l (end_lent_k qs q.1) (move_k w l (text.types.shape at.ty) t)))

  abbrev AllHave : List ParamInfo → TExps → Type 0
  AllHave [] no_exps = Unit {0}
  AllHave (p ∷ ps) (exp e es) = Has p.ty e × AllHave ps es
  AllHave [] (exp e es) = ⊥
  AllHave (p ∷ ps) no_exps = ⊥

  suits_have : (ps : List ParamInfo) (es : TExps) → AllSuit text program ps es → AllHave ps es
  suits_have [] no_exps h = tt
  suits_have [] (exp e es) h = absurd h
  suits_have (p ∷ ps) no_exps h = absurd h
  suits_have (p ∷ ps) (exp e es) h = (h.0, suits_have ps es h.2)

  here_as : (ty : Ty) (t : ℕ) → ty ≡ type.Named t → IsTypeHere text program ty → t < text.types.count
  here_as ty t e o = subst (IsTypeHere text program) e o

  struct_of : (t : ℕ) → t < text.types.count → text.types.is_enum (type.Named t) ≡ false → (head : TypeHead) × (fields : Shapes) × (text.types.shape (type.Named t) ≡ shape.struct head fields)
  struct_of t o is = let s = facts.whole.struct_shape t o is in (s.0, shapes_of text.types.shape (field_types (text.types.properties (type.Named t))), s.1)

  read_k_ : Keeps I (IsGood shape.number) read_input
  read_k_ = record { comes = λ s i. (i, (tt, refl)) }

  called_k : (at : At) (to : Target) (es : TExps) (passings : List Passing) → IsTypeHere text program at.ty
      → ((ps : List ParamInfo) → AllHave ps es → passings ≡ map (passing_of text.types.shape) ps → ArgsSteady here g es passings → Keeps I (Args ps) (eval_all text.types program run me level es passings))
      → (ItemsSteady here g es → Keeps I (λ (u : List (List ℕ)). Unit {0}) (items text.types program run me level es))
      → CallKnown text program k at to es passings
      → CallSteady here g at to (ArgsSteady here g es passings) (ItemsSteady here g es)
      → Keeps I (Is at.ty) (Value (call at to es passings))
  called_k at (target.Function j) es passings o args its h s =
      let c = h.1 in
      after_args_k at (target.Function j) es passings c.params s.0 (args c.params (suits_have c.params es (h.5).0) (h.5).1 s.1) (λ qs q.
      subst (λ z. Keeps I (Is z) (run j None qs level)) (sym h.4)
      (subst (λ z. Keeps I (Is c.result) (run z None qs level)) h.3
      (keep.keeps (suc n) w c.body None qs level c.result (function_callee c qs (facts.known.functions h.0 c h.2) (facts.written.functions h.0 c h.2) q))))
  called_k at (target.Method j) es passings o args its h s =
      let t = h.0 in
      let m = h.2 in
      let sent = h.4 in
      let r = sent.2 in
      let rp = receiver_param m.mode (node_of r.0).ty in
      let ps = rp ∷ m.callable.params in
      after_args_k at (target.Method j) es passings ps s.0
      (args ps (subst (AllHave ps) (sym r.2) (refl, suits_have m.callable.params r.1 r.4)) r.5 s.1) (λ qs q.
      subst (λ z. Keeps I (Is z) (run j None qs level)) (sym sent.1)
      (subst (λ z. Keeps I (Is m.callable.result) (run z None qs level)) sent.0
      (keep.keeps (suc n) w m.callable.body None qs level m.callable.result
      (method_callee t m qs (facts.known.methods t h.1 m h.3) (facts.written.methods t h.1 m h.3)
      (subst (λ z. PassedFor here (suc n) w (receiver_param m.mode z ∷ m.callable.params) qs) r.3 q)))))
  called_k at (target.Init j) es passings o args its h s =
      let t = h.0 in
      let c = h.1 in
      after_args_k at (target.Init j) es passings c.params s.0 (args c.params (suits_have c.params es (h.5).0) (h.5).1 s.1) (λ qs q.
      subst (λ z. Keeps I (Is z) (run j None qs level)) (sym h.4)
      (subst (λ z. Keeps I (Is (type.Named t)) (run z None qs level)) h.3
      (keep.keeps (suc n) w c.body None qs level (type.Named t)
      (init_callee t c qs (facts.known.initializers t c h.2) (facts.written.initializers t c h.2)
      (struct_of t (here_as at.ty t h.4 o) (subst (λ z. text.types.is_enum z ≡ false) h.4 s.2)) q))))
  called_k at (target.Memberwise t) es passings o args its h s =
      let ps = memberwise text (type.Named t) in
      let below = here_as at.ty t h.1 o in
      let is = subst (λ z. text.types.is_enum z ≡ false) h.1 s.2 in
      let st = facts.whole.struct_shape t below is in
      let fs = text.types.properties (type.Named t) in
      after_args_k at (target.Memberwise t) es passings ps s.0 (args ps (suits_have ps es (h.2).0) (h.2).1 s.1) (λ qs q.
      retyped (shape.struct st.0 (shapes_of text.types.shape (field_types fs))) (text.types.shape at.ty) (sym st.1 ∙ ap text.types.shape (sym h.1))
      (then_l (values_k (field_types fs) qs (given_fields fs qs (facts.whole.field_part t below is) q)) (λ vs r.
      construct_k st.0 (shapes_of text.types.shape (field_types fs)) t vs (tracked (text.types.shape (type.Named t))) (sym (ap tracked st.1)) (sym (st.2).number) r.0 r.1)))
  called_k at (target.Case t i) es passings o args its h s =
      let c = h.0 in
      let below = here_as at.ty t h.2 o in
      let en = case_there text program facts.basic facts.whole t below i c h.1 in
      let ps = map payload_param c.payloads in
      after_args_k at (target.Case t i) es passings ps s.0 (args ps (suits_have ps es (h.3).0) (h.3).1 s.1) (λ qs q.
      retyped (shape.enum en.head en.cases) (text.types.shape at.ty) (sym en.shape ∙ ap text.types.shape (sym h.2))
      (then_l (values_k c.payloads qs (given_payloads c.payloads qs en.parts q)) (λ vs r.
      pure_l (variant i vs) ((en.has, all_case en.cases i vs en.has (subst (λ z. AllFit z vs) (sym en.payloads) r.0)), r.1))))
  called_k at (target.Closure x) es passings o args its h s =
      let f = h.0 in
      let sg = h.1 in
      let name = h.2 in
      after_args_k at (target.Closure x) es passings sg.params s.0 (args sg.params (suits_have sg.params es (h.5).0) (h.5).1 s.1) (λ qs q.
      subst (λ z. Keeps I (Is z) (apply text.types program run me level (target.Closure x) qs)) (sym h.4)
      (then_l (closure_k here run me level w n k ret g seen x name.0 (name.1).0 s.2) (λ c r.
      subst (λ z. Keeps I (Is sg.result) (call_closure text.types program run me level z qs)) (sym r.2)
      (keep.keeps (suc n) w r.0 (Some r.1) qs level sg.result (closure_callee f sg (name.0).ty r.0 r.1 qs name.2 h.3 r.3 q)))))
  called_k at target.Print es passings o args its h s =
      retyped shape.no_value (text.types.shape at.ty) (sym (ap text.types.shape h.0 ∙ facts.basic.units))
      (then_l (its s) (λ bytes q. next_l (log_k w (printed (line (spaced bytes)))) (pure_l unit (tt, refl))))
  called_k at target.ReadInt es passings o args its h s =
      after_args_k at target.ReadInt es passings [] s.0 (args [] (suits_have [] es (h.1).0) (h.1).1 s.1) read_number
    where
      read_number : (qs : List Passed) → PassedFor here (suc n) w [] qs → Keeps I (Is at.ty) (apply text.types program run me level target.ReadInt qs)
      read_number [] q = retyped shape.number (text.types.shape at.ty) (sym (number_of at.ty h.0)) read_k_
      read_number (z ∷ zs) q = absurd q

  -- ---- parts of values

  nth_good : (ss : Shapes) (vs : Vals) (i : ℕ) → AllFit ss vs → all_whole vs ≡ true → HasShape ss i → FoundIs (IsGood (shape_at ss i)) (nth vs i)
  nth_good no_shapes vs i f e h = absurd h
  nth_good (shape.shape s ss) no_vals i f e h = absurd f
  nth_good (shape.shape s ss) (val v vs) zero f e h = (f.0, (both (is_whole v) (all_whole vs) e).0)
  nth_good (shape.shape s ss) (val v vs) (suc i) f e h = nth_good ss vs i f.1 (both (is_whole v) (all_whole vs) e).1 h

  child_good : (s : Shape) (v : Val) (i : ℕ) → IsGood s v → HasPart s (field i) → FoundIs (IsGood (property_shape s i)) (child v (field i))
  child_good shape.number v i f h = absurd h
  child_good shape.truth v i f h = absurd h
  child_good shape.no_value v i f h = absurd h
  child_good shape.closure v i f h = absurd h
  child_good (shape.enum head cases) v i f h = absurd h
  child_good (shape.struct head fields) hole i f h = tt
  child_good (shape.struct head fields) (struct type j vs) i f h = nth_good fields vs i (f.0).2 f.1 h
  child_good (shape.struct head fields) (int m) i f h = absurd f.0
  child_good (shape.struct head fields) (bool b) i f h = absurd f.0
  child_good (shape.struct head fields) unit i f h = absurd f.0
  child_good (shape.struct head fields) (variant present vs) i f h = absurd f.0

  member_k : (b : Bool) (at : At) (e : TExp) (i : ℕ) → ExpKnown text program k (member at e i) → ExpSteady here g (member at e i) → Keeps I (Is (node_of e).ty) (Value e)
      → Keeps I (Is at.ty) (part_of text.types program run me level b at e i (Value e))
  member_k b at e i h s value =
      let m = h.1 in
      let p = property_there text program facts.basic facts.whole (node_of e).ty (type_here text program k e h.0) i m.0 m.1 in
      let is = p.1 ∙ ap text.types.shape m.2 in
      by b p.0 is
    where
      by : (b : Bool) → HasPart (text.types.shape (node_of e).ty) (field i) → property_shape (text.types.shape (node_of e).ty) i ≡ text.types.shape at.ty
          → Keeps I (Is at.ty) (part_of text.types program run me level b at e i (Value e))
      by true has is =
          then_l value (λ v q. or_found_l (child v (field i)) (subst (λ z. FoundIs (IsGood z) (child v (field i))) is (child_good (text.types.shape (node_of e).ty) v i q has)))
      by false has is =
          then_l (wait_k e h.0 s.1 value) (λ l t.
          then_l (then_l (subst (λ z. Keeps I (IsGood z) (read (below l (field i ∷ [])))) is
          (read_k w (below l (field i ∷ [])) (property_shape (text.types.shape (node_of e).ty) i) (below_stands w l (text.types.shape (node_of e).ty) (field i ∷ []) t (has, tt))))
          (λ v q. hold_at at v s.2 q.0)) (λ to q.
          next_l (ended_k (node_of e).ty l (type_here text program k e h.0) t) (move_k w to (text.types.shape at.ty) q)))

  item_k : (o : Option (List ℕ)) (e : TExp) (is : Type 0) {v : Act Val} → (is → Keeps I (Is (node_of e).ty) v) → ItemSteady here o e is → Keeps I (λ (u : List ℕ). Unit {0}) (item_bytes o v)
  item_k (Some bytes) e is value h = pure_l bytes tt
  item_k None e is value (h, inl q) = then_l (retyped (text.types.shape (node_of e).ty) shape.number (number_of (node_of e).ty q) (value h)) (λ v r. spelled_number_k I v r)
  item_k None e is value (h, inr q) = then_l (retyped (text.types.shape (node_of e).ty) shape.truth (truth_of (node_of e).ty q) (value h)) (λ v r. spelled_truth_k I v r)

  compared_k : (at : At) (o : Comparison) (a b : TExp) → BothHave type.Int a b ⊎ BothHave type.Bool a b → at.ty ≡ type.Bool → ((node_of a).ty ≡ type.Bool → IsEquality o)
      → Keeps I (Is (node_of a).ty) (Value a) → Keeps I (Is (node_of b).ty) (Value b) → Keeps I (Is at.ty) (Value (compared at o a b))
  compared_k at o a b (inl q) e s va vb =
      retyped shape.truth (text.types.shape at.ty) (sym (truth_of at.ty e))
      (then_l (retyped (text.types.shape (node_of a).ty) shape.number (number_of (node_of a).ty q.0) va) (λ x u.
      then_l (retyped (text.types.shape (node_of b).ty) shape.number (number_of (node_of b).ty q.1) vb) (λ y v. numbers_k I o x y u v)))
  compared_k at o a b (inr q) e s va vb =
      retyped shape.truth (text.types.shape at.ty) (sym (truth_of at.ty e))
      (then_l (retyped (text.types.shape (node_of a).ty) shape.truth (truth_of (node_of a).ty q.0) va) (λ x u.
      then_l (retyped (text.types.shape (node_of b).ty) shape.truth (truth_of (node_of b).ty q.1) vb) (λ y v. truths_k I o x y u v (s q.0))))

  mutual
    pub eval_k : (e : TExp) → ExpKnown text program k e → ExpSteady here g e → Keeps I (Is (node_of e).ty) (Value e)
    eval_k (number at n) h s = pure_l (int n) (subst (λ z. IsGood z (int n)) (sym (number_of at.ty h)) (tt, refl))
    eval_k (typed.text at bytes) h s = absurd s
    eval_k (truth at b) h s = pure_l (bool b) (subst (λ z. IsGood z (bool b)) (sym (truth_of at.ty h)) (tt, refl))
    eval_k (path p) h s = take_value_k here run me level w n k ret g seen p (text.types.shape p.at.ty) (path_k p h s)
    eval_k (parenthesized at e) h s = retyped (text.types.shape (node_of e).ty) (text.types.shape at.ty) (ap text.types.shape h.1) (eval_k e h.0 s)
    eval_k (consumed at p) h s =
        retyped (text.types.shape p.at.ty) (text.types.shape at.ty) (ap text.types.shape (sym h.1))
        (then_l (path_k p h.0 s) (λ l t. move_k w l (text.types.shape p.at.ty) t))
    eval_k (negated at mark e) h s =
        retyped shape.number (text.types.shape at.ty) (sym (number_of at.ty h.2))
        (then_l (int_k (node_of e).ty h.1 (eval_k e h.0 s)) (λ m u. computed_k I arith.Neg mark.start (pos 0) m))
    eval_k (inverted at e) h s =
        retyped shape.truth (text.types.shape at.ty) (sym (truth_of at.ty h.2))
        (then_l (bool_k (node_of e).ty h.1 (eval_k e h.0 s)) (λ b u. pure_l (bool (not b)) (tt, refl)))
    eval_k (arithmetic at o mark a b) h s =
        retyped shape.number (text.types.shape at.ty) (sym (number_of at.ty h.3))
        (then_l (int_k (node_of a).ty (h.2).0 (eval_k a h.0 s.0)) (λ x u.
        then_l (int_k (node_of b).ty (h.2).1 (eval_k b h.1 s.1)) (λ y v. computed_k I o mark.start x y)))
    eval_k (wrapping at o a b) h s =
        retyped shape.number (text.types.shape at.ty) (sym (number_of at.ty h.3))
        (then_l (int_k (node_of a).ty (h.2).0 (eval_k a h.0 s.0)) (λ x u.
        then_l (int_k (node_of b).ty (h.2).1 (eval_k b h.1 s.1)) (λ y v. wrapped_k I o x y s.2)))
    eval_k (compared at o a b) h s = compared_k at o a b h.2 h.3 s.2 (eval_k a h.0 s.0) (eval_k b h.1 s.1)
    eval_k (logic at o a b) h s =
        retyped shape.truth (text.types.shape at.ty) (sym (truth_of at.ty h.3))
        (then_l (bool_k (node_of a).ty (h.2).0 (eval_k a h.0 s.0)) (λ x u.
        connected_k I o x (then_l (bool_k (node_of b).ty (h.2).1 (eval_k b h.1 s.1)) (λ y v. pure_l (bool y) (tt, refl)))))
    eval_k (choice at c a b) h s =
        then_l (bool_k (node_of c).ty h.3 (eval_k c h.0 s.0)) (λ x u.
        pick_l x
        (λ e. retyped (text.types.shape (node_of a).ty) (text.types.shape at.ty) (ap text.types.shape (h.4).0) (eval_k a h.1 s.1))
        (λ e. retyped (text.types.shape (node_of b).ty) (text.types.shape at.ty) (ap text.types.shape (h.4).1) (eval_k b h.2 s.2)))
    eval_k (member at e i) h s = member_k (copyable (text.types.shape (node_of e).ty)) at e i h s (eval_k e h.0 s.0)
    eval_k (call at to es passings) h s =
        called_k at to es passings h.1 (λ ps q e r. args_k es ps passings q e h.0 r) (λ q. items_k es h.0 q) h.2 s
    eval_k (address p) h s = absurd s
    eval_k (closure at j) h s = absurd s
    eval_k (function at x) h s = absurd s

    args_k : (es : TExps) (ps : List ParamInfo) (hows : List Passing) → AllHave ps es → hows ≡ map (passing_of text.types.shape) ps → ExpsKnown text program k es → ArgsSteady here g es hows
        → Keeps I (Args ps) (eval_all text.types program run me level es hows)
    args_k no_exps [] [] q e h s = pure_l [] (tt, tt)
    args_k no_exps [] (how ∷ hows) q e h s = absurd s
    args_k no_exps (p ∷ ps) hows q e h s = absurd q
    args_k (exp a es) [] hows q e h s = absurd q
    args_k (exp a es) (p ∷ ps) [] q e h s = absurd s
    args_k (exp a es) (p ∷ ps) (how ∷ hows) q e h s =
        then_l (subst (λ z. Keeps I (IsPassed here (suc n) w z p.ty) (pass text.types program run me level how a (Value a))) (ap form_for (first_same how (passing_of text.types.shape p) hows (map (passing_of text.types.shape) ps) e))
        (subst (λ z. Keeps I (IsPassed here (suc n) w (form_for how) z) (pass text.types program run me level how a (Value a))) q.0
        (arg_k how a (ExpSteady here g a) h.0 (λ is. eval_k a h.0 is) s.0))) (λ first r.
        then_l (args_k es ps hows q.1 (rest_same how (passing_of text.types.shape p) hows (map (passing_of text.types.shape) ps) e) h.1 s.1) (λ rest t.
        pure_l (first ∷ rest) ((r, t.0), (lendable (form_for (passing_of text.types.shape p)) p.ty first (subst (IsTypeHere text program) q.0 (type_here text program k a h.0)) r, t.1))))

    items_k : (es : TExps) → ExpsKnown text program k es → ItemsSteady here g es → Keeps I (λ (u : List (List ℕ)). Unit {0}) (items text.types program run me level es)
    items_k no_exps h s = pure_l [] tt
    items_k (exp a es) h s =
        then_l (item_k (text_of a) a (ExpSteady here g a) (λ is. eval_k a h.0 is) s.0) (λ first r.
        then_l (items_k es h.1 s.1) (λ rest t. pure_l (first ∷ rest) tt))
