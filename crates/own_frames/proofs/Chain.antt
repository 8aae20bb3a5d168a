-- Variables that a literal sees, in a function's body or in a closure's, lie apart where one of them is changed.
use Rattle.std.proofs.Common.{◌≡◌, ℕ, zero, suc, ◌<◌, Bool, true, false, List, Some, length, take, refl, sym, ap, ◌∙◌, subst, arith, inl, inr}
use Rattle.std.specs.Prelude.{◌⊎◌, ◌==◌, slice_get}
use Rattle.std.proofs.lemmas.Option.{slice_get_within}
use Rattle.own_tree.specs.TypedSource.{Program}
use Rattle.own_shapes.specs.Types.{Types}
use Rattle.own_runs.specs.Store.{Root, binding, temporary, result, Location, Slot, absent, holds, refers, runs, Activation, State}
use Rattle.own_frames.specs.Frame.{bare, links, Apart, Grant, Reach, home_of, at_root, Granted, Leads, Closed}
use Rattle.own_frames.specs.Tame.{Within}
use Rattle.own_frames.specs.Closures.{home_by, Shaped, ResolvesAt, Resolves, Parted, Around}
use Rattle.std.proofs.lemmas.List.{length-map}
use Rattle.own_frames.proofs.StoreFacts.{false_true, some_same, get_take, links_take, length_take_one}

pub acts_apart : (a b : Location) → (a.activation ≡ b.activation → ⊥) → Apart a b
acts_apart a b ne = inl ne

the_binding : Root → ℕ
the_binding (binding x) = x
the_binding (temporary n) = 0
the_binding result = 0

binding_same : (x y : ℕ) → binding x ≡ binding y → x ≡ y
unfolding the_binding
binding_same x y e = ap the_binding e

module _ (program : Program) (reach : Reach) (me k : ℕ) (shape : Activation) (shaped : Shaped program reach me k shape)
  where
    abbrev house : ℕ → Location
    house b = home_by me b (shape.slots b)

    pub home_view : (b : ℕ) (s : Slot) → ((l : Location) × (s ≡ refers l)) ⊎ (home_by me b s ≡ at_root me b)
    home_view b absent = inr refl
    home_view b (holds v) = inr refl
    home_view b (refers l) = inl (l, refl)
    home_view b (runs k' m) = inr refl

    abbrev PartedOrKept : ℕ → ℕ → Type 0
    PartedOrKept b b' = Apart (house b) (house b') ⊎ ((reach.borrowed b ≡ true) × (reach.borrowed b' ≡ true))

    own_apart : (b b' : ℕ) → (b ≡ b' → ⊥) → Apart (at_root me b) (at_root me b')
    own_apart b b' ne = inr (inl (λ e. ne (binding_same b b' e)))

    pub homes_apart : (b b' : ℕ) → (b ≡ b' → ⊥) → PartedOrKept b b'
    homes_apart b b' ne = go (home_view b (shape.slots b)) (home_view b' (shape.slots b'))
      where
        go : ((l : Location) × (shape.slots b ≡ refers l)) ⊎ (house b ≡ at_root me b)
            → ((l : Location) × (shape.slots b' ≡ refers l)) ⊎ (house b' ≡ at_root me b') → PartedOrKept b b'
        go (inl a) (inl a') = aliases (shaped.alone b b' a.0 a'.0 ne a.1 a'.1)
          where
            aliases : Apart a.0 a'.0 ⊎ ((reach.borrowed b ≡ true) × (reach.borrowed b' ≡ true)) → PartedOrKept b b'
            aliases (inl out) =
                inl (subst (λ l. Apart l (house b')) (sym (ap (home_by me b) a.1))
                (subst (Apart a.0) (sym (ap (home_by me b') a'.1)) out))
            aliases (inr both') = inr both'
        go (inl a) (inr e') =
            inl (subst (λ l. Apart l (house b')) (sym (ap (home_by me b) a.1))
            (subst (Apart a.0) (sym e')
            (acts_apart a.0 (at_root me b') (λ s. omega (arith, shaped.linked b a.0 a.1, s)))))
        go (inr e) (inl a') =
            inl (subst (λ l. Apart l (house b')) (sym e)
            (subst (Apart (at_root me b)) (sym (ap (home_by me b') a'.1))
            (acts_apart (at_root me b) a'.0 (λ s. omega (arith, shaped.linked b' a'.0 a'.1, s)))))
        go (inr e) (inr e') =
            inl (subst (λ l. Apart l (house b')) (sym e) (subst (Apart (at_root me b)) (sym e') (own_apart b b' ne)))

module _ (types : Types) (program : Program) (reach : Reach) (me k : ℕ) (shape : Activation)
    (shaped : Shaped program reach me k shape) (shared : Grant) where
  abbrev home : ℕ → Location
  home b = home_by me b (shape.slots b)

  abbrev Lower : State → List Activation
  Lower st = links (take me st.store)

  granted_home : (m x : ℕ) (s : Slot) → Granted program reach shared true m x s → shared.may (home_by m x s)
  granted_home m x absent g = g refl
  granted_home m x (holds v) g = g refl
  granted_home m x (refers l) g = g refl
  granted_home m x (runs k' m') g = g.0 refl

  -- what is seen to be changed may be changed
  resolved_may : (acts : List Activation) → Closed program reach shared acts → (f x m : ℕ) (w : Location)
      → shared.sees x true m → Resolves program reach acts f x m w → shared.may w
  resolved_may acts closed zero x m w s r = absurd r
  resolved_may acts closed (suc f) x m w s r =
      go (closed x true m s) (λ m' s' r'. resolved_may acts closed f x m' w s' r') r.2
    where
      go : Leads program reach shared acts x true m
          → ((m' : ℕ) → shared.sees x true m' → Resolves program reach acts f x m' w → shared.may w)
          → ResolvesAt program reach r.0 x m w (λ m'. Resolves program reach acts f x m' w) → shared.may w
      go l rest (inl h) =
          let same : l.act ≡ r.0 = some_same l.act r.0 (sym l.found ∙ r.1) in
          subst shared.may (sym h.1)
          (granted_home m x (r.0.slots x)
          (subst (λ a. (a.body == home_of program x) ≡ true → Granted program reach shared true m x (a.slots x))
          same l.here h.0))
      go l rest (inr h) =
          let same : l.act ≡ r.0 = some_same l.act r.0 (sym l.found ∙ r.1) in
          let o : (m' : ℕ) × (r.0.maker ≡ Some m') × shared.sees x true m' =
          subst (λ a. (a.body == home_of program x) ≡ false → (m' : ℕ) × (a.maker ≡ Some m') × shared.sees x true m')
          same l.outer h.0 in
          rest h.1.0 (subst (shared.sees x true) (some_same o.0 h.1.0 (sym o.1 ∙ h.1.1)) o.2) h.1.2

  -- a look-up in the whole store is one in the lower activations
  narrowed : (st : State) → Closed program reach shared (Lower st) → (f x : ℕ) (c : Bool) (m : ℕ) (w : Location)
      → shared.sees x c m → Resolves program reach (links st.store) f x m w → Resolves program reach (Lower st) f x m w
  narrowed st closed zero x c m w s r = absurd r
  narrowed st closed (suc f) x c m w s r = go (closed x c m s) (λ m' s' r'. narrowed st closed f x c m' w s' r') r.2
    where
      big : (l : Leads program reach shared (Lower st) x c m) → l.act ≡ r.0
      big l =
          some_same l.act r.0 (sym (get_take me (links st.store) m l.act
          (ap (λ as'. slice_get as' m) (sym (links_take me st.store)) ∙ l.found)) ∙ r.1)

      go : Leads program reach shared (Lower st) x c m
          → ((m' : ℕ) → shared.sees x c m' → Resolves program reach (links st.store) f x m' w
          → Resolves program reach (Lower st) f x m' w)
          → ResolvesAt program reach r.0 x m w (λ m'. Resolves program reach (links st.store) f x m' w)
          → Resolves program reach (Lower st) (suc f) x m w
      go l rest (inl h) = (r.0, l.found ∙ ap Some (big l), inl h)
      go l rest (inr h) =
          let o : (m' : ℕ) × (r.0.maker ≡ Some m') × shared.sees x c m' =
          subst (λ a. (a.body == home_of program x) ≡ false → (m' : ℕ) × (a.maker ≡ Some m') × shared.sees x c m')
          (big l) l.outer h.0 in
          let s' : shared.sees x c h.1.0 = subst (shared.sees x c) (some_same o.0 h.1.0 (sym o.1 ∙ h.1.1)) o.2 in
          (r.0, l.found ∙ ap Some (big l), inr (h.0, (h.1.0, h.1.1, rest h.1.0 s' h.1.2)))

  module _ (st : State) (top : length st.store ≡ suc me) (found : slice_get (links st.store) me ≡ Some shape)
      (around : Around program reach shared me shape st)
      (maker : (x : ℕ) (c : Bool) → reach.captured k x c → (m : ℕ) × (shape.maker ≡ Some m) × shared.sees x c m) where
    abbrev closed : Closed program reach shared (Lower st)
    closed = around.holding.closed

    below_me : (x : ℕ) (c : Bool) (m : ℕ) → shared.sees x c m → m < me
    below_me x c m s =
        let l = closed x c m s in
        subst (λ n. m < n) (length-map (take me st.store) bare ∙ length_take_one me st.store top)
        (slice_get_within (Lower st) m l.act l.found)

    -- at hand
    mine_at : (x f : ℕ) (w : Location) → (k == home_of program x) ≡ true
        → Resolves program reach (links st.store) f x me w → w ≡ home x
    mine_at x zero w own r = absurd r
    mine_at x (suc f) w own r = go r.2
      where
        same : r.0 ≡ shape
        same = some_same r.0 shape (sym r.1 ∙ found)

        go : ResolvesAt program reach r.0 x me w (λ m'. Resolves program reach (links st.store) f x m' w) → w ≡ home x
        go (inl h) = h.1 ∙ ap (λ a. home_by me x (a.slots x)) same
        go (inr h) =
            absurd (false_true (sym own ∙ ap (λ n. n == home_of program x) (sym shaped.whose)
            ∙ ap (λ a. a.body == home_of program x) (sym same) ∙ h.0))

    -- outwards
    outer_at : (x f : ℕ) (c : Bool) (w : Location) → (k == home_of program x) ≡ false → reach.captured k x c
        → Resolves program reach (links st.store) f x me w
        → (f' m : ℕ) × (shape.maker ≡ Some m) × shared.sees x c m × Resolves program reach (Lower st) f' x m w
    outer_at x zero c w other cap r = absurd r
    outer_at x (suc f) c w other cap r = go r.2
      where
        same : r.0 ≡ shape
        same = some_same r.0 shape (sym r.1 ∙ found)

        go : ResolvesAt program reach r.0 x me w (λ m'. Resolves program reach (links st.store) f x m' w)
            → (f' m : ℕ) × (shape.maker ≡ Some m) × shared.sees x c m × Resolves program reach (Lower st) f' x m w
        go (inl h) =
            absurd (false_true (sym h.0 ∙ ap (λ a. a.body == home_of program x) same
            ∙ ap (λ n. n == home_of program x) shaped.whose ∙ other))
        go (inr h) =
            let o = maker x c cap in
            let is : shape.maker ≡ Some h.1.0 = ap (λ a. a.maker) (sym same) ∙ h.1.1 in
            let s : shared.sees x c h.1.0 = subst (shared.sees x c) (some_same o.0 h.1.0 (sym o.1 ∙ is)) o.2 in
            (f, h.1.0, is, s, narrowed st closed f x c h.1.0 w s h.1.2)

    abbrev Sight : ℕ → Bool → ℕ → Type 0
    Sight x c m = shared.sees x c m ⊎ ((m ≡ me) × Within program reach types k x c)

    at_me : (x x' : ℕ) (c' : Bool) (f f' : ℕ) (w w' : Location) → Within program reach types k x true
        → Within program reach types k x' c' → (x ≡ x' → ⊥) → Resolves program reach (links st.store) f x me w
        → Resolves program reach (links st.store) f' x' me w' → Apart w w'
    at_me x x' c' f f' w w' (inl a) (inl a') ne r r' =
        subst (λ l. Apart l w') (sym (mine_at x f w a.0 r))
        (subst (Apart (home x)) (sym (mine_at x' f' w' a'.0 r'))
        (go (homes_apart program reach me k shape shaped x x' ne)))
      where
        go : Apart (home x) (home x') ⊎ ((reach.borrowed x ≡ true) × (reach.borrowed x' ≡ true))
            → Apart (home x) (home x')
        go (inl p) = p
        go (inr b) = absurd (false_true (sym b.0 ∙ a.1 refl))
    at_me x x' c' f f' w w' (inl a) (inr a') ne r r' =
        subst (λ l. Apart l w') (sym (mine_at x f w a.0 r))
        (go (home_view program reach me k shape shaped x (shape.slots x)))
      where
        go : ((l : Location) × (shape.slots x ≡ refers l)) ⊎ (home x ≡ at_root me x) → Apart (home x) w'
        go (inl v) =
            let o = outer_at x' f' c' w' a'.0 a'.1 r' in subst (λ l. Apart l w') (sym (ap (home_by me x) v.1))
            (around.clear x v.0 v.1 (a.1 refl) x' c' o.1 o.0 w' o.3 o.4)
        go (inr e) =
            let o = outer_at x' f' c' w' a'.0 a'.1 r' in subst (λ l. Apart l w') (sym e)
            (acts_apart (at_root me x) w' (λ z. omega (arith, around.lower x' c' o.1 o.0 w' o.3 o.4, z)))
    at_me x x' c' f f' w w' (inr a) (inl a') ne r r' =
        subst (Apart w) (sym (mine_at x' f' w' a'.0 r'))
        (go (home_view program reach me k shape shaped x' (shape.slots x')))
      where
        go : ((l : Location) × (shape.slots x' ≡ refers l)) ⊎ (home x' ≡ at_root me x') → Apart w (home x')
        go (inl v) =
            let o = outer_at x f true w a.0 a.1 r in subst (Apart w) (sym (ap (home_by me x') v.1))
            (around.holding.apart x' v.0 w v.1 (resolved_may (Lower st) closed o.0 x o.1 w o.3 o.4))
        go (inr e) =
            let o = outer_at x f true w a.0 a.1 r in subst (Apart w) (sym e)
            (acts_apart w (at_root me x') (λ z. omega (arith, around.lower x true o.1 o.0 w o.3 o.4, z)))
    at_me x x' c' f f' w w' (inr a) (inr a') ne r r' =
        let o = outer_at x f true w a.0 a.1 r in
        let o' = outer_at x' f' c' w' a'.0 a'.1 r' in
        let same : o'.1 ≡ o.1 = some_same o'.1 o.1 (sym o'.2 ∙ o.2) in
        around.parted o.1 x x' c' o.0 o'.0 w w' o.3 (subst (shared.sees x' c') same o'.3) ne o.4
        (subst (λ n. Resolves program reach (Lower st) o'.0 x' n w') same o'.4)

    -- what a literal of this activation sees is parted, whether this is a function's body or a closure's
    pub parted_on : Parted program reach Sight (links st.store)
    parted_on m x x' c' f f' w w' (inl s) (inl s') ne r r' =
        around.parted m x x' c' f f' w w' s s' ne (narrowed st closed f x true m w s r)
        (narrowed st closed f' x' c' m w' s' r')
    parted_on m x x' c' f f' w w' (inl s) (inr v') ne r r' = absurd (not_below m (below_me x true m s) v'.0)
      where
        not_below : (n : ℕ) → n < me → n ≡ me → ⊥
        not_below n lt e = omega (arith, lt, e)
    parted_on m x x' c' f f' w w' (inr v) (inl s') ne r r' = absurd (not_below m (below_me x' c' m s') v.0)
      where
        not_below : (n : ℕ) → n < me → n ≡ me → ⊥
        not_below n lt e = omega (arith, lt, e)
    parted_on m x x' c' f f' w w' (inr v) (inr v') ne r r' =
        at_me x x' c' f f' w w' v.1 v'.1 ne (subst (λ n. Resolves program reach (links st.store) f x n w) v.0 r)
        (subst (λ n. Resolves program reach (links st.store) f' x' n w') v.0 r')
