-- A closure literal that changes captured bindings, passed beside an `inout` of another place.
use Rattle.std.proofs.Common.{◌≡◌, ℕ, suc, ◌<◌, Bool, true, false, List, [], ◌∷◌, ◌++◌, Some, None, length, take, refl, sym, ap, ◌∙◌, subst, arith, inl, inr}
use Rattle.std.specs.Prelude.{◌⊎◌, ◌==◌, slice_get}
use Rattle.std.proofs.lemmas.List.{append-nil}
use Rattle.own_tree.specs.TypedSource.{TBody, Program}
use Rattle.own_runs.specs.Laws.{AreApart}
use Rattle.own_runs.specs.Destruction.{lent, closed}
use Rattle.own_runs.specs.Store.{Location, Slot, absent, holds, refers, runs, Activation, State, below}
use Rattle.own_runs.specs.Values.{Part}
use Rattle.own_frames.specs.Frame.{links, seen, Apart, Grant, Reach, home_of, at_root, entry_params, Takes, Calls, Granted, Leads, Closed, AllFit, Admits, Framed}
use Rattle.own_frames.specs.Closures.{home_by, Shaped, Holding, IsLiteral, ClosureMay, May, Sees}
use Rattle.own_frames.proofs.StoreFacts.{false_true, get_take, links_take}
use Rattle.own_frames.proofs.Chain.{acts_apart, homes_apart, home_view}

parts_below : (as' bs ks js : List Part) → AreApart as' bs → AreApart (as' ++ ks) (bs ++ js)
parts_below [] bs ks js a = absurd a
parts_below (x ∷ as') [] ks js a = absurd a
parts_below (x ∷ as') (y ∷ bs) ks js (inl ne) = inl ne
parts_below (x ∷ as') (y ∷ bs) ks js (inr h) = inr (h.0, parts_below as' bs ks js h.1)

apart_below : (k l : Location) (ks js : List Part) → Apart k l → Apart (below k ks) (below l js)
apart_below k l ks js (inl ne) = inl ne
apart_below k l ks js (inr (inl ne)) = inr (inl ne)
apart_below k l ks js (inr (inr a)) = inr (inr (parts_below k.parts l.parts ks js a))

at_parts : Location → List Part → Location
at_parts l ks = record { activation = l.activation; root = l.root; parts = ks }

below_none : (l : Location) → l ≡ below l []
unfolding at_parts
below_none l = sym (ap (at_parts l) (append-nil l.parts))

appended : (as' bs cs : List Part) → (as' ++ bs) ++ cs ≡ as' ++ (bs ++ cs)
appended [] bs cs = refl
appended (a ∷ as') bs cs = ap (λ l. a ∷ l) (appended as' bs cs)

below_twice : (l : Location) (ks js : List Part) → below (below l ks) js ≡ below l (ks ++ js)
unfolding at_parts
below_twice l ks js = ap (at_parts l) (appended l.parts ks js)

apart_down : (k l : Location) (ks : List Part) → Apart k l → Apart (below k ks) l
apart_down k l ks a = subst (Apart (below k ks)) (sym (below_none l)) (apart_below k l ks [] a)

module _ (program : Program) (reach : Reach) (me number : ℕ) (shape : Activation)
    (shaped : Shaped program reach me number shape) (shared : Grant) where
  abbrev home : ℕ → Location
  home b = home_by me b (shape.slots b)

  abbrev Held : State → Type 0
  Held st = Holding program reach shared me shape st

  -- a binding of this activation, an `inout` one too, lies apart from what its held closures change
  held_apart : (st : State) → Held st → (x : ℕ) (w : Location) → shared.may w → Apart w (home x)
  held_apart st h x w may = go (home_view program reach me number shape shaped x (shape.slots x))
    where
      go : ((l : Location) × (shape.slots x ≡ refers l)) ⊎ (home x ≡ at_root me x) → Apart w (home x)
      go (inl a) = subst (Apart w) (sym (ap (home_by me x) a.1)) (h.apart x a.0 w a.1 may)
      go (inr e) = subst (Apart w) (sym e) (acts_apart w (at_root me x) (λ s. omega (arith, h.lower w may, s)))

  module _ (k b : ℕ) (literal : IsLiteral program reach me number k) (inout : reach.borrowed b ≡ false)
      (o10 : (x : ℕ) (c : Bool) → reach.captured k x c → x ≡ b → ⊥) where
    pub below_too : (l : Location) (w : Location) (ks : List Part) → (ls : List Part) × (w ≡ below l ls)
        → (ls : List Part) × (below w ks ≡ below l ls)
    below_too l w ks h = (h.0 ++ ks, ap (λ v. below v ks) h.1 ∙ below_twice l h.0 ks)

    pub more_below : (w : Location) (ks : List Part) → May program reach shared me shape k b w
        → May program reach shared me shape k b (below w ks)
    more_below w ks (inl h) = inl (below_too (home b) w ks h)
    more_below w ks (inr (inl c)) = inr (inl (c.0, c.1, below_too (home c.0) w ks c.2))
    more_below w ks (inr (inr m)) = inr (inr (shared.downward w ks m))

    abbrev grant : Grant
    grant =
        record {
          may = May program reach shared me shape k b;
          downward = more_below;
          sees = Sees program reach shared me shape k b;
        }

    -- the invariant of the called: what it is lent lies apart from what its closures change
    pub lent_apart : (st : State) → Held st → (w : Location) → ClosureMay program reach shared me shape k b w
        → Apart w (home b)
    lent_apart st h w (inl c) = go (homes_apart program reach me number shape shaped c.0 b (o10 c.0 true c.1))
      where
        go : Apart (home c.0) (home b) ⊎ ((reach.borrowed c.0 ≡ true) × (reach.borrowed b ≡ true)) → Apart w (home b)
        go (inl out) = subst (λ x. Apart x (home b)) (sym c.2.1) (apart_down (home c.0) (home b) c.2.0 out)
        go (inr both') = absurd (false_true (sym both'.1 ∙ inout))
    lent_apart st h w (inr m) = held_apart st h b w m

    weaken : (c : Bool) (a x : ℕ) (s : Slot) → Granted program reach shared c a x s
        → Granted program reach grant c a x s
    weaken c a x absent g = λ e. inr (inr (g e))
    weaken c a x (holds v) g = λ e. inr (inr (g e))
    weaken c a x (refers l) g = λ e. inr (inr (g e))
    weaken c a x (runs k' m) g = ((λ e. inr (inr (g.0 e))), (λ x' c' h. inr (g.1 x' c' h)), g.2)

    -- a captured binding of this activation
    own_granted : (c : Bool) (x : ℕ) → reach.captured k x c → (s : Slot) → shape.slots x ≡ s
        → ((k' m : ℕ) → s ≡ runs k' m → Calls program reach shared k' m × Takes program reach k' (reach.formals x))
        → Granted program reach grant c me x s
    own_granted c x cap absent is h =
        λ e. inr (inl (
          x,
          subst (reach.captured k x) e cap,
          ([], below_none (at_root me x) ∙ ap (λ l. below l []) (sym (ap (home_by me x) is))),
        ))
    own_granted c x cap (holds v) is h =
        λ e. inr (inl (
          x,
          subst (reach.captured k x) e cap,
          ([], below_none (at_root me x) ∙ ap (λ l. below l []) (sym (ap (home_by me x) is))),
        ))
    own_granted c x cap (refers l) is h =
        λ e. inr (inl (
          x,
          subst (reach.captured k x) e cap,
          ([], below_none l ∙ ap (λ l'. below l' []) (sym (ap (home_by me x) is))),
        ))
    own_granted c x cap (runs k' m) is h = (
      (λ e. inr (inl (
        x,
        subst (reach.captured k x) e cap,
        ([], below_none (at_root me x) ∙ ap (λ l. below l []) (sym (ap (home_by me x) is))),
      ))),
      (λ x' c' g. inr ((h k' m refl).0 x' c' g)),
      (h k' m refl).1,
    )

    closed_here : (st : State) → slice_get (links st.store) me ≡ Some shape → Held st
        → Closed program reach grant (links st.store)
    closed_here st found h x c m (inl s) =
        subst (λ n. Leads program reach grant (links st.store) x c n) (sym s.0) (record {
          act = shape;
          found = found;
          here = λ e. own_granted c x s.1 (shape.slots x) refl (λ k' m' is. h.held x k' m' is);
          outer =
              λ e. absurd (false_true (sym (literal.own x c s.1) ∙ ap (λ n. n == home_of program x) (sym shaped.whose) ∙
              e));
        })
    closed_here st found h x c m (inr s) =
        let l = h.closed x c m s in
        record {
          act = l.act;
          found =
              get_take me (links st.store) m l.act
              (ap (λ as'. slice_get as' m) (sym (links_take me st.store)) ∙ l.found);
          here = λ e. weaken c m x (l.act.slots x) (l.here e);
          outer = λ e. let o = l.outer e in (o.0, o.1, inr o.2);
        }

    -- the call is admitted with this grant: `f(&b, { .. })`
    pub admitted : (st : State) → slice_get (links st.store) me ≡ Some shape → Held st → (f p q : ℕ)
        → ((x : ℕ) (c : Bool) → reach.captured f x c → ⊥)
        → ((body : TBody) → slice_get program.bodies f ≡ Some body → entry_params body.kind body.params ≡ p ∷ q ∷ [])
        → Takes program reach k (reach.formals q)
        → Admits program reach grant f None (lent (home b) ∷ closed k me ∷ []) st.store
    admitted st found h f p q none params takes = record {
      closed = closed_here st found h;
      passed =
          λ body e. subst (λ xs. AllFit program reach grant xs (lent (home b) ∷ closed k me ∷ [])) (sym (params body e))
          ((λ nb. inl ([], below_none (home b))), (((λ x c g. inl (refl, g)), takes), tt));
      maker = none;
    }

    -- the invariant of the caller: every other leaf is as it was, and its own closures stay within shared
    pub others_stay : (st st' : State) → length st.store ≡ suc me → Held st → Framed grant st st' → (x : ℕ)
        → (home x).activation < length st.store → (x ≡ b → ⊥) → (reach.captured k x true → ⊥)
        → seen st'.store (home x) ≡ seen st.store (home x)
    others_stay st st' top h f x within other not_changed = f.apart (home x) within out
      where
        parted : (y : ℕ) → reach.borrowed y ≡ false → (y ≡ x → ⊥) → Apart (home y) (home x)
        parted y nb ne = go (homes_apart program reach me number shape shaped y x ne)
          where
            go : Apart (home y) (home x) ⊎ ((reach.borrowed y ≡ true) × (reach.borrowed x ≡ true))
                → Apart (home y) (home x)
            go (inl a) = a
            go (inr both') = absurd (false_true (sym both'.0 ∙ nb))

        out : (w : Location) → grant.may w → Apart w (home x)
        out w (inl g) =
            subst (λ y. Apart y (home x)) (sym g.1)
            (apart_down (home b) (home x) g.0 (parted b inout (λ e. other (sym e))))
        out w (inr (inl c)) =
            subst (λ y. Apart y (home x)) (sym c.2.1)
            (apart_down (home c.0) (home x) c.2.0
            (parted c.0 (literal.may_change c.0 c.1) (λ e. not_changed (subst (λ y. reach.captured k y true) e c.1))))
        out w (inr (inr m)) = held_apart st h x w m

    pub still_holding : (st st' : State) → Held st → Framed grant st st' → Held st'
    still_holding st st' h f = record {
      lower = h.lower;
      apart = h.apart;
      held = h.held;
      closed =
          subst (Closed program reach shared)
          (sym (links_take me st'.store ∙ ap (take me) f.linked ∙ sym (links_take me st.store))) h.closed;
    }
