-- No call strays, to any depth, and so no run does.
use Rattle.std.proofs.Common.{◌≡◌, ℕ, zero, suc, Bool, true, false, List, [], ◌∷◌, ◌++◌, length, Option, Some, None, inl, inr, refl, sym, ap, ◌∙◌, subst, arith}
use Rattle.std.specs.Prelude.{◌==◌, ◌||◌, ◌+◌, ◌≢◌, slice_get, if◌then◌else◌}
use Rattle.std.proofs.lemmas.Bool.Decides.{Decides-eqb}
use Rattle.std.proofs.lemmas.Option.{slice_get_within}
use Rattle.own_tree.specs.declared.place.Binding.{Binding}
use Rattle.own_tree.specs.declared.place.Ty.{Ty}
use Rattle.own_tree.specs.declared.place.Ty.TheVariants as type
use Rattle.own_tree.specs.declared.typed.BodyKind.{BodyKind}
use Rattle.own_tree.specs.declared.typed.BodyKind.TheVariants as kind
use Rattle.own_tree.specs.TypedSource.{TBody, Program}
use Rattle.own_paths.specs.Ops.{has_result}
use Rattle.own_shapes.specs.Types.{TypeHead, Shape, Shapes, tracked}
use Rattle.own_shapes.specs.Types as shape
use Rattle.own_judged.specs.Text.{Text}
use Rattle.own_runs.specs.Calls.{slot_of, slots_of, construct}
use Rattle.own_runs.specs.Destruction.{Passed, given, lent, lent_temporary, closed, Call}
use Rattle.own_runs.specs.Loops.{Flow, onward, broke, continued, returned}
use Rattle.own_runs.specs.Run.{completed, come_back, made_self, result_value, body_value, init_slots, entry_slots, run_body, entered, run_to, start}
use Rattle.own_runs.specs.Store.{binding, result, Slot, absent, holds, refers, runs, State, with_at, root_at, move, take_turn}
use Rattle.own_runs.specs.Values.{Val, int, bool, unit, struct, variant, hole, Vals, all_whole, opened}
use Rattle.own_ways.specs.Ways.{Way, gives, traps, stops, errs, strays, ◌>>=◌, ◌>>◌, pure}
use Rattle.own_steady.specs.Fits.{IsNumbered, Fits, AllFit, IsGood, untracked}
use Rattle.own_steady.specs.Programs.{setting, is_astray, NeverStrays}
use Rattle.own_steady.specs.Steady.{Form, a_value, a_place, a_closure, form, own_shape, Setting, site_of, is_in, AreOthers, OuterSteady}
use Rattle.own_steady.specs.Ways.{CameOut, Keeps}
use Rattle.own_steady.specs.Worlds.{Kind, bare, maybe, owns, stands_for, calls, Frame, World, SlotFits, where_some, declares}
use Rattle.own_steady.proofs.Binding.{known_some}
use Rattle.own_steady.proofs.Destroying.{TakesAll, Makes, Enters, Callee, CallsKeep}
use Rattle.own_steady.proofs.Evaluating.{Facts}
use Rattle.own_steady.proofs.Executing.{IsWay, exec_body_k, leave_k}
use Rattle.own_steady.proofs.Seeing.{SeesTo, IsPassed, KindFor, HomeKind, Seen, IsBare, push_grows, kind_for, sees_grows, sees_more, declares_more, was_some, in_append, either, or_left, or_right, on_either, no_yes}
use Rattle.own_steady.proofs.Steps.{In, then_l, next_l, pure_l, stop_l, some_same, read_k, move_k, level_k, turn_k, begin_k, finish_k}
use Rattle.own_steady.proofs.Values.{opened_fits}

-- ---- the bindings of a body at its entry

abbrev home_kind : Form → Shape → Kind
home_kind a_value s = maybe s
home_kind a_place s = bare
home_kind a_closure s = bare

abbrev home_at : Setting → Option Binding → Kind
home_at here None = bare
home_at here (Some b) = home_kind (form here b) (own_shape b.mode (here.types.shape b.ty))

abbrev home_kinds : Setting → ℕ → Kind
home_kinds here x = home_at here (slice_get here.program.bindings x)

abbrev passed_kind : Setting → Option Binding → Passed → Kind
passed_kind here None p = bare
passed_kind here (Some b) (given l) = owns (here.types.shape b.ty)
passed_kind here (Some b) (lent l) = stands_for l (here.types.shape b.ty)
passed_kind here (Some b) (lent_temporary s l) = stands_for l (here.types.shape b.ty)
passed_kind here (Some b) (closed j m) = calls j m

abbrev entry_kinds : Setting → List ℕ → List Passed → ℕ → Kind
entry_kinds here [] ps = home_kinds here
entry_kinds here (x ∷ xs) [] = home_kinds here
entry_kinds here (x ∷ xs) (p ∷ ps) = with_at x (passed_kind here (slice_get here.program.bindings x) p) (entry_kinds here xs ps)

absent_home : (f : Form) (s : Shape) → SlotFits (home_kind f s) absent
absent_home a_value s = tt
absent_home a_place s = tt
absent_home a_closure s = tt

absent_at : (here : Setting) (o : Option Binding) → SlotFits (home_at here o) absent
absent_at here None = tt
absent_at here (Some b) = absent_home (form here b) (own_shape b.mode (here.types.shape b.ty))

home_is : (f : Form) (s : Shape) (inside : Bool) → HomeKind f s inside (home_kind f s)
home_is a_value s inside = inl refl
home_is a_place s true = tt
home_is a_place s false = refl
home_is a_closure s inside = tt

kind_home : (here : Setting) (sees : (m x : ℕ) → Binding → Type 0) (w : World) (b : Binding) (f : Form) (k : Kind) → KindFor here sees w b f k
    → HomeKind f (own_shape b.mode (here.types.shape b.ty)) true k
kind_home here sees w b a_value k h = inr h
kind_home here sees w b a_place k h = tt
kind_home here sees w b a_closure k h = subst IsBare (sym h.2) tt

in_left : (xs ys : List ℕ) (x : ℕ) → is_in xs x ≡ true → is_in (xs ++ ys) x ≡ true
in_left [] ys x e = no_yes e
in_left (y ∷ xs) ys x e =
    on_either (either (y == x) (is_in xs x) e) (λ q. or_left (y == x) (is_in (xs ++ ys) x) q) (λ q. or_right (y == x) (is_in (xs ++ ys) x) (in_left xs ys x q))

others_of : (here : Setting) (k : ℕ) (xs : List ℕ) (x : ℕ) (b : Binding) → AreOthers here k xs → is_in xs x ≡ true → slice_get here.program.bindings x ≡ Some b → b.body ≢ k
others_of here k [] x b h e d = no_yes e
others_of here k (y ∷ xs) x b h e d =
    on_either (either (y == x) (is_in xs x) e)
    (λ q. h.0 b (ap (slice_get here.program.bindings) ((Decides-eqb y x).0 q) ∙ d))
    (λ q. others_of here k xs x b h.1 q d)

last_frame : (w : World) (f : Frame) → slice_get (w ++ f ∷ []) (length w) ≡ Some f
last_frame [] f = refl
last_frame (g ∷ gs) f = last_frame gs f

neither : (b : Bool) → (b ≡ true → ⊥) → b ≡ false
neither true h = absurd (h refl)
neither false h = refl

-- what a body finds at its entry
pub record Entry (here : Setting) (n : ℕ) (w : World) (j : ℕ) (xs : List ℕ) (kinds : ℕ → Kind) : Type 0 where
  pub params : (y : ℕ) (c : Binding) → is_in xs y ≡ true → slice_get here.program.bindings y ≡ Some c
      → KindFor here (SeesTo here n w) w c (form here c) (kinds y) × (c.body ≡ j)
  pub others : (y : ℕ) → is_in xs y ≡ false → kinds y ≡ home_kinds here y

module _ (here : Setting) (n : ℕ) (w : World) (j : ℕ) where
  slot_of_k : (f : Form) (b : Binding) (p : Passed) → IsPassed here n w f b.ty p → Keeps (In w) (SlotFits (passed_kind here (Some b) p)) (slot_of p)
  slot_of_k a_value b (given l) h = then_l (move_k w l (here.types.shape b.ty) h) (λ v q. pure_l (holds v) q.0)
  slot_of_k a_value b (lent l) h = absurd h
  slot_of_k a_value b (lent_temporary s l) h = absurd h
  slot_of_k a_value b (closed i m) h = absurd h
  slot_of_k a_place b (given l) h = absurd h
  slot_of_k a_place b (lent l) h = pure_l (refers l) refl
  slot_of_k a_place b (lent_temporary s l) h = pure_l (refers l) refl
  slot_of_k a_place b (closed i m) h = absurd h
  slot_of_k a_closure b (given l) h = absurd h
  slot_of_k a_closure b (lent l) h = absurd h
  slot_of_k a_closure b (lent_temporary s l) h = absurd h
  slot_of_k a_closure b (closed i m) h = pure_l (runs i m) (refl, refl)

  with_slot : (x : ℕ) (k : Kind) (s : Slot) (kinds : ℕ → Kind) (slots : ℕ → Slot) → SlotFits k s → ((y : ℕ) → SlotFits (kinds y) (slots y)) → (y : ℕ) → SlotFits (with_at x k kinds y) (with_at x s slots y)
  with_slot x k s kinds slots h g y = at_one (x == y)
    where
      at_one : (b : Bool) → SlotFits (if b then k else kinds y) (if b then s else slots y)
      at_one true = h
      at_one false = g y

  slots_of_k : (xs : List ℕ) (ps : List Passed) → TakesAll here n w j xs ps → Keeps (In w) (λ slots. (y : ℕ) → SlotFits (entry_kinds here xs ps y) (slots y)) (slots_of xs ps)
  slots_of_k [] [] h = pure_l _ (λ y. absent_at here (slice_get here.program.bindings y))
  slots_of_k [] (p ∷ ps) h = absurd h
  slots_of_k (x ∷ xs) [] h = absurd h
  slots_of_k (x ∷ xs) (p ∷ ps) h =
      let b = (h.0).0 in
      then_l (slot_of_k (form here b) b p (h.0).4) (λ s q. then_l (slots_of_k xs ps h.1) (λ rest r.
      pure_l (with_at x s rest) (with_slot x (passed_kind here (slice_get here.program.bindings x) p) s (entry_kinds here xs ps) rest
      (subst (λ o. SlotFits (passed_kind here o p) s) (sym (h.0).1) q) r)))

  passed_for : (f : Form) (b : Binding) (p : Passed) → own_shape b.mode (here.types.shape b.ty) ≡ here.types.shape b.ty → IsPassed here n w f b.ty p
      → KindFor here (SeesTo here n w) w b f (passed_kind here (Some b) p)
  passed_for a_value b (given l) e h = ap owns (sym e)
  passed_for a_value b (lent l) e h = absurd h
  passed_for a_value b (lent_temporary s l) e h = absurd h
  passed_for a_value b (closed i m) e h = absurd h
  passed_for a_place b (given l) e h = absurd h
  passed_for a_place b (lent l) e h = (l, refl, h)
  passed_for a_place b (lent_temporary s l) e h = (l, refl, h.0)
  passed_for a_place b (closed i m) e h = absurd h
  passed_for a_closure b (given l) e h = absurd h
  passed_for a_closure b (lent l) e h = absurd h
  passed_for a_closure b (lent_temporary s l) e h = absurd h
  passed_for a_closure b (closed i m) e h = (i, m, refl, h)

  -- one parameter more
  one_more : (x : ℕ) (b : Binding) (k : Kind) (xs : List ℕ) (kinds : ℕ → Kind) → slice_get here.program.bindings x ≡ Some b → b.body ≡ j → KindFor here (SeesTo here n w) w b (form here b) k
      → Entry here n w j xs kinds → Entry here n w j (x ∷ xs) (with_at x k kinds)
  one_more x b k xs kinds d own h t = record { params = λ y c i e. inside y c e (x == y) refl i; others = λ y i. outside y (x == y) i }
    where
      inside : (y : ℕ) (c : Binding) → slice_get here.program.bindings y ≡ Some c → (z : Bool) → (x == y) ≡ z → (z || is_in xs y) ≡ true
          → KindFor here (SeesTo here n w) w c (form here c) (if z then k else kinds y) × (c.body ≡ j)
      inside y c e true q i =
          subst (λ (p : Binding). KindFor here (SeesTo here n w) w p (form here p) k × (p.body ≡ j)) (some_same b c (sym d ∙ ap (slice_get here.program.bindings) ((Decides-eqb x y).0 q) ∙ e)) (h, own)
      inside y c e false q i = t.params y c i e

      outside : (y : ℕ) (z : Bool) → (z || is_in xs y) ≡ false → (if z then k else kinds y) ≡ home_kinds here y
      outside y true i = no_yes (sym i)
      outside y false i = t.others y i

  entry_of : (xs : List ℕ) (ps : List Passed) → TakesAll here n w j xs ps → Entry here n w j xs (entry_kinds here xs ps)
  entry_of [] [] h = record { params = λ y c i e. no_yes i; others = λ y i. refl }
  entry_of [] (p ∷ ps) h = absurd h
  entry_of (x ∷ xs) [] h = absurd h
  entry_of (x ∷ xs) (p ∷ ps) h =
      let b = (h.0).0 in
      one_more x b (passed_kind here (slice_get here.program.bindings x) p) xs (entry_kinds here xs ps) (h.0).1 (h.0).2
      (subst (λ o. KindFor here (SeesTo here n w) w b (form here b) (passed_kind here o p)) (sym (h.0).1) (passed_for (form here b) b p (h.0).3 (h.0).4)) (entry_of xs ps h.1)

module _ (text : Text) (program : Program) (node_type : ℕ → Ty) (outer : ℕ → List ℕ) (facts : Facts text program node_type outer) where
  abbrev here : Setting
  here = setting text program node_type outer

  abbrev Of : Ty → Shape
  Of ty = text.types.shape ty

  abbrev frame_of : ℕ → Option ℕ → (ℕ → Kind) → Ty → Frame
  frame_of j maker kinds ret = record { body = j; maker = maker; kinds = kinds; waits = λ m. Of (node_type m); result = Of ret }

  module _ (n : ℕ) (w : World) (j : ℕ) (maker : Option ℕ) (body : TBody) (d : slice_get program.bodies j ≡ Some body)
      (captures : (x : ℕ) (b : Binding) → is_in (outer j) x ≡ true → slice_get program.bindings x ≡ Some b → (m : ℕ) × (maker ≡ Some m) × SeesTo here n w m x b)
      (kinds : ℕ → Kind) (entry : Entry here n w j body.params kinds) where
    abbrev f : Frame
    f = frame_of j maker kinds body.result

    abbrev me : ℕ
    me = length w

    abbrev v : World
    v = w ++ f ∷ []

    own_sees : (y : ℕ) (c : Binding) → KindFor here (SeesTo here n w) w c (form here c) (kinds y) × (c.body ≡ j) → SeesTo here (suc n) v me y c
    own_sees y c h = record {
      owner = me;
      owned = subst (λ o. where_some o (λ g. if g.body == c.body then Some me else where_some g.maker (λ m. declares me v c.body m)) ≡ Some me) (sym (last_frame w f))
          (ap (λ b. if b then Some me else where_some maker (λ m. declares me v c.body m)) ((Decides-eqb j c.body).1 (sym h.1)));
      frame = f;
      there = last_frame w f;
      kind = kind_for here (SeesTo here n w) (SeesTo here n v) w v c (form here c) (kinds y) (push_grows w f) (λ m x b q. sees_grows here n w v m x b (push_grows w f) q) h.0;
    }

    maker_sees : (i : ℕ) → n ≡ i → (y : ℕ) (c : Binding) → c.body ≢ j → (m : ℕ) → maker ≡ Some m → SeesTo here i w m y c → SeesTo here (suc n) v me y c
    maker_sees zero e y c ne m is t = absurd t
    maker_sees (suc i) e y c ne m is t =
        let u = sees_grows here (suc (suc i)) w v m y c (push_grows w f) (sees_more here (suc i) w m y c t) in
        let at = was_some (slice_get w m) (λ g. if g.body == c.body then Some m else where_some g.maker (λ o. declares m w c.body o)) t.owner t.owned in
        let below = slice_get_within w m at.0 at.1 in
        subst (λ z. SeesTo here (suc z) v me y c) (sym e) (record {
          owner = u.owner;
          owned = subst (λ o. where_some o (λ g. if g.body == c.body then Some me else where_some g.maker (λ m. declares me v c.body m)) ≡ Some u.owner) (sym (last_frame w f))
              (ap (λ b. if b then Some me else where_some maker (λ m. declares me v c.body m)) (neither (j == c.body) (λ q. ne (sym ((Decides-eqb j c.body).0 q))))
              ∙ ap (λ o. where_some o (λ m. declares me v c.body m)) is ∙ declares_more (suc m) me v c.body m u.owner (omega (arith, below)) u.owned);
          frame = u.frame;
          there = u.there;
          kind = u.kind;
        })

    entry_seen : Seen here n v me j body.result (body.params ++ outer j)
    entry_seen = record {
      frame = f;
      there = last_frame w f;
      body = refl;
      waits = λ m. refl;
      result = refl;
      sees = λ y c i e.
          on_either (in_append body.params (outer j) y i)
          (λ q. own_sees y c (entry.params y c q e))
          (λ q. let p = captures y c q e in
          maker_sees n refl y c (others_of here j (outer j) y c (facts.steady.bodies j body d).others q e) p.0 p.1 p.2);
      home = λ y c e. home_one y c e (is_in body.params y) refl;
    }
      where
        home_one : (y : ℕ) (c : Binding) → slice_get program.bindings y ≡ Some c → (z : Bool) → is_in body.params y ≡ z
            → HomeKind (form here c) (own_shape c.mode (Of c.ty)) (is_in (body.params ++ outer j) y) (kinds y)
        home_one y c e true q =
            subst (λ i. HomeKind (form here c) (own_shape c.mode (Of c.ty)) i (kinds y)) (sym (in_left body.params (outer j) y q))
            (kind_home here (SeesTo here n w) w c (form here c) (kinds y) (entry.params y c q e).0)
        home_one y c e false q =
            subst (λ k. HomeKind (form here c) (own_shape c.mode (Of c.ty)) (is_in (body.params ++ outer j) y) k)
            (sym (entry.others y q ∙ ap (home_at here) e)) (home_is (form here c) (own_shape c.mode (Of c.ty)) (is_in (body.params ++ outer j) y))

    come_back_k : (r : Flow) → IsWay (site_of here j body) r → Keeps (In v) (λ u. Unit {0}) (come_back r)
    come_back_k onward h = pure_l tt tt
    come_back_k (returned at) h = pure_l tt tt
    come_back_k (broke at) h = no_yes h
    come_back_k (continued at) h = no_yes h

    run_body_k : (depth : ℕ) (run : Call) (keep : CallsKeep here run) (level : ℕ) (ty : Ty) → Keeps (In v) (IsGood (Of ty)) (body_value text.types program me body body.kind)
        → Keeps (In v) (IsGood (Of ty)) (run_body text.types program depth run me level body)
    run_body_k depth run keep level ty h =
        let steady = facts.steady.bodies j body d in
        let known = facts.known.bodies j body d in
        then_l (exec_body_k text program node_type outer facts run keep me level n j body.result depth body d refl (has_result body.result) body.block known.1 v (site_of here j body) entry_seen steady.block steady.result) (λ r q.
        next_l (leave_k text program node_type outer facts run keep me level n j body.result depth body d refl v (site_of here j body) (body.params ++ outer j) entry_seen body.params r q)
        (next_l (come_back_k r q) h))

    entered_k : (depth : ℕ) (run : Call) (keep : CallsKeep here run) (level : ℕ) (ty : Ty) (ps : List Passed)
        → Keeps (In w) (λ slots. (y : ℕ) → SlotFits (kinds y) (slots y)) (entry_slots text.types program body.kind body.params ps)
        → Keeps (In v) (IsGood (Of ty)) (body_value text.types program me body body.kind)
        → Keeps (In w) (IsGood (Of ty)) (entered text.types program depth run j body maker ps level)
    entered_k depth run keep level ty ps slots value =
        next_l (level_k w (level + 1)) (then_l slots (λ ss fits.
        then_l (begin_k w f (record { body = j; maker = maker; slots = ss; temporaries = λ node. hole; result = hole })
        (record { body = refl; maker = refl; slots = fits; temporaries = λ m. tt; result = tt })) (λ i e.
        then_l (subst (λ z. Keeps (In v) (IsGood (Of ty)) (run_body text.types program depth run z (level + 1) body)) (sym e) (run_body_k depth run keep (level + 1) ty value)) (λ r q.
        next_l (finish_k w f) (pure_l r q)))))

    result_value_k : (b : Bool) → has_result body.result ≡ b → Keeps (In v) (IsGood (Of body.result)) (result_value text.types program me b)
    result_value_k true e = read_k v (root_at me result) (Of body.result) (record { frame = f; there = last_frame w f; root = Of body.result; rooted = refl; has = tt; shape = refl })
    result_value_k false e = pure_l unit (subst (λ z. IsGood z unit) (sym (no_result body.result e)) (tt, refl))
      where
        no_result : (ty : Ty) → has_result ty ≡ false → Of ty ≡ shape.no_value
        no_result type.Unit e = facts.basic.units
        no_result type.Int e = no_yes (sym e)
        no_result type.Bool e = no_yes (sym e)
        no_result (type.Named k) e = no_yes (sym e)
        no_result (type.Fun k) e = no_yes (sym e)

    made_value_k : (x : ℕ) (xs : List ℕ) (b : Binding) (ty : Ty) (head : TypeHead) (fields : Shapes) → slice_get program.bindings x ≡ Some b → b.ty ≡ ty → Of ty ≡ shape.struct head fields
        → kinds x ≡ owns (untracked (Of ty)) → Keeps (In v) (IsGood (Of ty)) (made_self text.types program me (x ∷ xs))
    made_value_k x xs b ty head fields e t s k =
        known_some (slice_get program.bindings x) b (λ b. move (root_at me (binding x)) >>= λ v. completed (tracked (text.types.shape b.ty)) v) e
        (then_l (move_k v (root_at me (binding x)) (untracked (Of ty)) (record { frame = f; there = last_frame w f; root = untracked (Of ty); rooted = k; has = tt; shape = refl })) (λ u q.
        subst (λ z. Keeps (In v) (IsGood (Of ty)) (completed (tracked (Of z)) u)) (sym t)
        (subst (λ z. Keeps (In v) (IsGood z) (completed (tracked z) u)) (sym s) (completed_k u (subst (λ z. IsGood (untracked z) u) s q)))))
      where
        construct_k : (i : ℕ) (vs : Vals) (b : Bool) → head.has_deinit ≡ b → i ≡ head.number → AllFit fields vs → all_whole vs ≡ true → Keeps (In v) (IsGood (shape.struct head fields)) (construct b i vs)
        construct_k i vs true e n f q = record { comes = λ s i. (i, ((n, subst (λ d. IsNumbered d (Some (s.births + 1))) (sym e) tt, f), q)) }
        construct_k i vs false e n f q = pure_l _ ((n, subst (λ d. IsNumbered d None) (sym e) tt, f), q)

        completed_k : (u : Val) → IsGood (untracked (shape.struct head fields)) u → Keeps (In v) (IsGood (shape.struct head fields)) (completed head.has_deinit u)
        completed_k (struct i None vs) g = construct_k i vs head.has_deinit refl (g.0).0 (g.0).2 g.1
        completed_k (struct i (Some m) vs) g = absurd (g.0).1
        completed_k (variant present vs) g = absurd g.0
        completed_k (int m) g = absurd g.0
        completed_k (bool m) g = absurd g.0
        completed_k unit g = absurd g.0
        completed_k hole g = no_yes g.1

  -- ---- calls to a depth

  by_kind : (n : ℕ) (w : World) (j : ℕ) (maker : Option ℕ) (ps : List Passed) (level depth : ℕ) (ty : Ty) (run : Call) → CallsKeep here run → (body : TBody) → slice_get program.bodies j ≡ Some body
      → ((x : ℕ) (b : Binding) → is_in (outer j) x ≡ true → slice_get program.bindings x ≡ Some b → (m : ℕ) × (maker ≡ Some m) × SeesTo here n w m x b)
      → (which : BodyKind) → body.kind ≡ which → Enters here n w j which body.params ps body.result ty → Keeps (In w) (IsGood (Of ty)) (entered text.types program depth run j body maker ps level)
  by_kind n w j maker ps level depth ty run keep body d captures which e h = case_of which e h
    where
      plain : (which : BodyKind) → body.kind ≡ which → TakesAll here n w j body.params ps × (body.result ≡ ty)
          → entry_slots text.types program which body.params ps ≡ slots_of body.params ps
          → ((me : ℕ) → body_value text.types program me body which ≡ result_value text.types program me (has_result body.result))
          → Keeps (In w) (IsGood (Of ty)) (entered text.types program depth run j body maker ps level)
      plain which e h slots value =
          let kinds = entry_kinds here body.params ps in
          let entry = entry_of here n w j body.params ps h.0 in
          entered_k n w j maker body d captures kinds entry depth run keep level ty ps
          (subst (λ z. Keeps (In w) (λ slots. (y : ℕ) → SlotFits (kinds y) (slots y)) (entry_slots text.types program z body.params ps)) (sym e)
          (subst (λ z. Keeps (In w) (λ slots. (y : ℕ) → SlotFits (kinds y) (slots y)) z) (sym slots) (slots_of_k here n w j body.params ps h.0)))
          (subst (λ z. Keeps (In (w ++ frame_of j maker kinds body.result ∷ [])) (IsGood (Of ty)) (body_value text.types program (length w) body z)) (sym e)
          (subst (λ z. Keeps (In (w ++ frame_of j maker kinds body.result ∷ [])) (IsGood (Of ty)) z) (sym (value (length w)))
          (subst (λ z. Keeps (In (w ++ frame_of j maker kinds body.result ∷ [])) (IsGood (Of z)) (result_value text.types program (length w) (has_result body.result))) h.1
          (result_value_k n w j maker body d captures kinds entry (has_result body.result) refl))))

      making : body.kind ≡ kind.Initializer → (xs : List ℕ) → body.params ≡ xs → Makes here n w j xs ps ty → Keeps (In w) (IsGood (Of ty)) (entered text.types program depth run j body maker ps level)
      making e [] q h = absurd h
      making e (x ∷ xs) q h =
          let b = (h.0).0 in
          let sh = ap (λ m. own_shape m (Of b.ty)) (h.0).3 ∙ ap (λ z. untracked (Of z)) (h.0).5 in
          let kinds = with_at x (owns (untracked (Of ty))) (entry_kinds here xs ps) in
          let entry = one_more here n w j x b (owns (untracked (Of ty))) xs (entry_kinds here xs ps) (h.0).1 (h.0).2
          (subst (λ z. KindFor here (SeesTo here n w) w b z (owns (untracked (Of ty)))) (sym (h.0).4) (ap owns (sym sh))) (entry_of here n w j xs ps h.1) in
          let entry_ = subst (λ z. Entry here n w j z kinds) (sym q) entry in
          let v = w ++ frame_of j maker kinds body.result ∷ [] in
          entered_k n w j maker body d captures kinds entry_ depth run keep level ty ps
          (subst (λ z. Keeps (In w) (λ slots. (y : ℕ) → SlotFits (kinds y) (slots y)) (entry_slots text.types program z body.params ps)) (sym e)
          (subst (λ z. Keeps (In w) (λ slots. (y : ℕ) → SlotFits (kinds y) (slots y)) (init_slots text.types program z ps)) (sym q)
          (known_some (slice_get program.bindings x) b (λ b. slots_of xs ps >>= λ rest. pure (with_at x (holds (opened (text.types.shape b.ty))) rest)) (h.0).1
          (then_l (slots_of_k here n w j xs ps h.1) (λ rest r. pure_l _
          (with_slot here n w j x (owns (untracked (Of ty))) (holds (opened (Of b.ty))) (entry_kinds here xs ps) rest
          (subst (λ z. Fits (untracked (Of z)) (opened (Of b.ty))) (h.0).5 (opened_fits (Of b.ty))) r))))))
          (subst (λ z. Keeps (In v) (IsGood (Of ty)) (body_value text.types program (length w) body z)) (sym e)
          (subst (λ z. Keeps (In v) (IsGood (Of ty)) (made_self text.types program (length w) z)) (sym q)
          (made_value_k n w j maker body d captures kinds entry_ x xs b ty ((h.0).6).0 ((h.0).6).1 (h.0).1 (h.0).5 ((h.0).6).2
          (ap (λ z. if z then owns (untracked (Of ty)) else entry_kinds here xs ps x) ((Decides-eqb x x).1 refl)))))

      case_of : (which : BodyKind) → body.kind ≡ which → Enters here n w j which body.params ps body.result ty → Keeps (In w) (IsGood (Of ty)) (entered text.types program depth run j body maker ps level)
      case_of kind.Initializer e h = making e body.params refl h
      case_of kind.Function e h = plain kind.Function e h refl (λ me. refl)
      case_of kind.Method e h = plain kind.Method e h refl (λ me. refl)
      case_of kind.Deinitializer e h = plain kind.Deinitializer e h refl (λ me. refl)
      case_of (kind.Closure round) e h = plain (kind.Closure round) e h refl (λ me. refl)

  calls_keep : (depth : ℕ) → CallsKeep here (run_to text.types program depth)
  calls_keep zero = record { keeps = λ n w j maker ps level ty c. stop_l }
  calls_keep (suc depth) = record {
    keeps = λ n w j maker ps level ty c.
        known_some (slice_get program.bodies j) c.body (λ b. take_turn >> entered text.types program depth (run_to text.types program depth) j b maker ps level) c.there
        (next_l (turn_k w) (by_kind n w j maker ps level depth ty (run_to text.types program depth) (calls_keep depth) c.body c.there c.captures c.body.kind refl c.enters));
  }

  -- ---- whole runs

  main_callee : Callee here 0 [] program.main None [] facts.steady.main.body.result
  main_callee =
      let m = facts.steady.main in
      record {
        body = m.body;
        there = m.there;
        enters = subst (λ z. Enters here 0 [] program.main z m.body.params [] m.body.result m.body.result) (sym m.kind)
            (subst (λ z. TakesAll here 0 [] program.main z []) (sym m.params) tt, refl);
        captures = λ x b i e. no_yes (ap (λ z. is_in z x) (sym (subst (λ z. OuterSteady here z (outer program.main)) m.kind (facts.steady.bodies program.main m.body m.there).outer_names)) ∙ i);
      }

  came_out : (ty : Ty) (r : Way State Val) → CameOut (In []) (IsGood (Of ty)) r → is_astray r ≡ false
  came_out ty (gives a s) h = refl
  came_out ty (traps code at s) h = refl
  came_out ty (stops s) h = refl
  came_out ty (errs s) h = refl
  came_out ty (strays s) h = absurd h

  pub never_strays : NeverStrays text.types program
  never_strays input turns =
      let main_keeps = (calls_keep (suc turns)).keeps 0 [] program.main None [] 0 facts.steady.main.body.result main_callee in
      came_out facts.steady.main.body.result (run_to text.types program (suc turns) program.main None [] 0 (start input turns)) (main_keeps.comes (start input turns) tt)
