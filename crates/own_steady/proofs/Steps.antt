-- The steps on the store.
use Rattle.std.proofs.Common.{◌≡◌, ℕ, zero, suc, ◌-◌, Bool, true, false, List, [], ◌∷◌, ◌++◌, length, take, Option, Some, None, refl, sym, ap, ◌∙◌, subst, arith}
use Rattle.std.specs.Prelude.{◌==◌, slice_get, slice_set, if◌then◌else◌}
use Rattle.std.proofs.lemmas.Bool.Decides.{Decides-eqb}
use Rattle.own_tree.specs.declared.typed.At.{At}
use Rattle.own_shapes.specs.Types.{Shape}
use Rattle.own_runs.specs.Events.{Item, Event, happened}
use Rattle.own_runs.specs.Store.{Root, binding, temporary, result, Location, Slot, absent, holds, refers, runs, Activation, State, Act, or_found, activation, set_activation, with_at, slot_at, set_slot, own_value, root_value, with_root, peek, put, read, vacate, move, hold, root_at, below, begin, finish, log_item, note, take_level, take_turn, turn_of}
use Rattle.own_runs.specs.Values.{Val, is_whole, emptied, Part, Found, found, hollow, nowhere, value_at, with_value_at}
use Rattle.own_ways.specs.Ways.{Way, gives, traps, stops, errs, strays, after, ◌>>=◌, ◌>>◌, pure, trap, stop, err, pick, or_stray}
use Rattle.own_steady.specs.Fits.{Fits, IsGood, HasParts, FoundIs, shape_along, replaced}
use Rattle.own_steady.specs.Ways.{CameOut, Leads, Keeps}
use Rattle.own_steady.specs.Worlds.{Kind, owns, Frame, World, SlotFits, ActivationFits, StoreFits, RootIs, Stands, with_kind, with_root_shape, with_place}
use Rattle.own_steady.proofs.Values.{value_at_fits, with_value_at_fits, emptied_fits, parts_append, shape_append, replaced_same}

-- ---- steps that follow one another

after_l : {A B : Type 0} (J K : State → Type 0) (Q : A → Type 0) (R : B → Type 0) (w : Way State A) (f : A → Act B)
    → CameOut J Q w → ((a : A) → Q a → Leads J R K (f a)) → CameOut K R (after w f)
after_l J K Q R (gives a s) f h k = (k a h.1).comes s h.0
after_l J K Q R (traps code at s) f h k = tt
after_l J K Q R (stops s) f h k = tt
after_l J K Q R (errs s) f h k = tt
after_l J K Q R (strays s) f h k = absurd h

pub then_l : {I J K : State → Type 0} {A B : Type 0} {Q : A → Type 0} {R : B → Type 0} {p : Act A} {f : A → Act B}
    → Leads I Q J p → ((a : A) → Q a → Leads J R K (f a)) → Leads I R K (p >>= f)
then_l {I = I} {J = J} {K = K} {Q = Q} {R = R} {p = p} {f = f} h k = record { comes = λ s i. after_l J K Q R (p s) f (h.comes s i) k }

pub next_l : {I J K : State → Type 0} {A B : Type 0} {Q : A → Type 0} {R : B → Type 0} {p : Act A} {q : Act B}
    → Leads I Q J p → Leads J R K q → Leads I R K (p >> q)
next_l h k = then_l h (λ a g. k)

pub pure_l : {I : State → Type 0} {A : Type 0} {Q : A → Type 0} (a : A) → Q a → Leads I Q I (pure a)
pure_l a q = record { comes = λ s i. (i, q) }

pub trap_l : {I J : State → Type 0} {A : Type 0} {Q : A → Type 0} (code at : ℕ) → Leads I Q J (trap {A = A} code at)
trap_l code at = record { comes = λ s i. tt }

pub stop_l : {I J : State → Type 0} {A : Type 0} {Q : A → Type 0} → Leads I Q J (stop {A = A})
stop_l = record { comes = λ s i. tt }

pub err_l : {I J : State → Type 0} {A : Type 0} {Q : A → Type 0} → Leads I Q J (err {A = A})
err_l = record { comes = λ s i. tt }

pub pick_l : {I J : State → Type 0} {A : Type 0} {Q : A → Type 0} (b : Bool) {p q : Act A}
    → (b ≡ true → Leads I Q J p) → (b ≡ false → Leads I Q J q) → Leads I Q J (pick b p q)
pick_l true h k = h refl
pick_l false h k = k refl

pub some_l : {I : State → Type 0} {A : Type 0} {Q : A → Type 0} (o : Option A) (a : A) → o ≡ Some a → Q a → Leads I Q I (or_stray o)
some_l {I = I} {Q = Q} o a e q = subst (λ x. Leads I Q I (or_stray x)) (sym e) (pure_l a q)

pub or_found_l : {I : State → Type 0} {A : Type 0} {Q : A → Type 0} (o : Found A) → FoundIs Q o → Leads I Q I (or_found o)
or_found_l (found a) h = pure_l a h
or_found_l hollow h = err_l
or_found_l nowhere h = absurd h

weaken : {A : Type 0} (J K : State → Type 0) (Q R : A → Type 0) → ((s : State) → J s → K s) → ((a : A) → Q a → R a) → (w : Way State A) → CameOut J Q w → CameOut K R w
weaken J K Q R h k (gives a s) g = (h s g.0, k a g.1)
weaken J K Q R h k (traps code at s) g = tt
weaken J K Q R h k (stops s) g = tt
weaken J K Q R h k (errs s) g = tt
weaken J K Q R h k (strays s) g = absurd g

-- the same with less said of the value, or of the state that it comes to
pub weaker : {I J : State → Type 0} {A : Type 0} {Q R : A → Type 0} {p : Act A} → Leads I Q J p → ((a : A) → Q a → R a) → Leads I R J p
weaker {J = J} {Q = Q} {R = R} {p = p} h k = record { comes = λ s i. weaken J J Q R (λ t j. j) k (p s) (h.comes s i) }

pub lead_to : {I J K : State → Type 0} {A : Type 0} {Q : A → Type 0} {p : Act A} → Leads I Q J p → ((s : State) → J s → K s) → Leads I Q K p
lead_to {J = J} {K = K} {Q = Q} {p = p} h k = record { comes = λ s i. weaken J K Q Q k (λ a q. q) (p s) (h.comes s i) }

pub lead_from : {H I J : State → Type 0} {A : Type 0} {Q : A → Type 0} {p : Act A} → ((s : State) → H s → I s) → Leads I Q J p → Leads H Q J p
lead_from k h = record { comes = λ s i. h.comes s (k s i) }

-- ---- options

pub none_some : {A B : Type 0} (a : A) → None ≡ Some a → B
none_some {A} {B} a e = absurd (subst is_none e tt)
  where
    is_none : Option A → Type 0
    is_none None = Unit {0}
    is_none (Some x) = ⊥

pub some_same : {A : Type 0} (a b : A) → Some a ≡ Some b → a ≡ b
some_same {A} a b e = ap get e
  where
    get : Option A → A
    get None = a
    get (Some x) = x

-- ---- the store

-- an activation of a world
pub record IsThere (acts : List Activation) (a : ℕ) (f : Frame) : Type 0 where
  pub act : Activation
  pub got : slice_get acts a ≡ Some act
  pub fits : ActivationFits f act

pub get_there : (w : World) (acts : List Activation) (a : ℕ) (f : Frame) → StoreFits w acts → slice_get w a ≡ Some f → IsThere acts a f
get_there [] [] a f h e = none_some f e
get_there [] (b ∷ bs) a f h e = absurd h
get_there (g ∷ gs) [] a f h e = absurd h
get_there (g ∷ gs) (b ∷ bs) zero f h e = record { act = b; got = refl; fits = subst (λ x. ActivationFits x b) (some_same g f e) h.0 }
get_there (g ∷ gs) (b ∷ bs) (suc a) f h e = let t = get_there gs bs a f h.1 e in record { act = t.act; got = t.got; fits = t.fits }

-- an activation is changed, and the world with it
pub set_there : (w : World) (acts : List Activation) (a : ℕ) (f : Frame) (new : Activation) → StoreFits w acts → ActivationFits f new → StoreFits (slice_set w a f) (slice_set acts a new)
set_there [] [] a f new h n = tt
set_there [] (b ∷ bs) a f new h n = absurd h
set_there (g ∷ gs) [] a f new h n = absurd h
set_there (g ∷ gs) (b ∷ bs) zero f new h n = (n, h.1)
set_there (g ∷ gs) (b ∷ bs) (suc a) f new h n = (h.0, set_there gs bs a f new h.1 n)

pub set_same : {A : Type 0} (w : List A) (a : ℕ) (f : A) → slice_get w a ≡ Some f → slice_set w a f ≡ w
set_same [] a f e = refl
set_same (g ∷ gs) zero f e = ap (λ z. z ∷ gs) (sym (some_same g f e))
set_same (g ∷ gs) (suc a) f e = ap (λ z. g ∷ z) (set_same gs a f e)

pub set_again : {A : Type 0} (w : List A) (a : ℕ) (f g : A) → slice_set (slice_set w a f) a g ≡ slice_set w a g
set_again [] a f g = refl
set_again (h ∷ hs) zero f g = refl
set_again (h ∷ hs) (suc a) f g = ap (λ z. h ∷ z) (set_again hs a f g)

pub get_set : {A : Type 0} (w : List A) (a : ℕ) (f g : A) → slice_get w a ≡ Some f → slice_get (slice_set w a g) a ≡ Some g
get_set [] a f g e = none_some f e
get_set (h ∷ hs) zero f g e = refl
get_set (h ∷ hs) (suc a) f g e = get_set hs a f g e

-- an activation that fits what it did fits less as well
pub fits_less : (w : World) (a : ℕ) (f g : Frame) (acts : List Activation) → slice_get w a ≡ Some f → ((act : Activation) → ActivationFits g act → ActivationFits f act)
    → StoreFits (slice_set w a g) acts → StoreFits w acts
fits_less [] a f g acts e h k = none_some f e
fits_less (b ∷ bs) zero f g [] e h k = absurd k
fits_less (b ∷ bs) zero f g (act ∷ acts) e h k = (subst (λ z. ActivationFits z act) (sym (some_same b f e)) (h act k.0), k.1)
fits_less (b ∷ bs) (suc a) f g [] e h k = absurd k
fits_less (b ∷ bs) (suc a) f g (act ∷ acts) e h k = (k.0, fits_less bs a f g acts e h k.1)

pub push_fits : (w : World) (acts : List Activation) (f : Frame) (new : Activation) → StoreFits w acts → ActivationFits f new → StoreFits (w ++ f ∷ []) (acts ++ new ∷ [])
push_fits [] [] f new h n = (n, tt)
push_fits [] (b ∷ bs) f new h n = absurd h
push_fits (g ∷ gs) [] f new h n = absurd h
push_fits (g ∷ gs) (b ∷ bs) f new h n = (h.0, push_fits gs bs f new h.1 n)

pub same_length : (w : World) (acts : List Activation) → StoreFits w acts → length acts ≡ length w
same_length [] [] h = refl
same_length [] (b ∷ bs) h = absurd h
same_length (g ∷ gs) [] h = absurd h
same_length (g ∷ gs) (b ∷ bs) h = ap suc (same_length gs bs h.1)

pop_all : (w : World) (acts : List Activation) (f : Frame) (n : ℕ) → n ≡ length w → StoreFits (w ++ f ∷ []) acts → StoreFits w (take n acts)
pop_all [] [] f n e h = absurd h
pop_all [] (b ∷ bs) f zero e h = tt
pop_all [] (b ∷ bs) f (suc n) e h = absurd (omega arith)
pop_all (g ∷ gs) [] f n e h = absurd h
pop_all (g ∷ gs) (b ∷ bs) f zero e h = absurd (omega arith)
pop_all (g ∷ gs) (b ∷ bs) f (suc n) e h = (h.0, pop_all gs bs f n (omega arith) h.1)

-- the states of a world
abbrev pub In : World → State → Type 0
In w s = StoreFits w s.store

module _ (w : World) where
  pub activation_k : (a : ℕ) (f : Frame) → slice_get w a ≡ Some f → Keeps (In w) (ActivationFits f) (activation a)
  activation_k a f e = record {
    comes = λ s i.
        let t = get_there w s.store a f i e in
        (some_l {I = In w} (slice_get s.store a) t.act t.got t.fits).comes s i;
  }

  pub set_activation_k : (a : ℕ) (f : Frame) (new : Activation) → ActivationFits f new → Leads (In w) (λ u. Unit {0}) (In (slice_set w a f)) (set_activation a new)
  set_activation_k a f new n = record { comes = λ s i. (set_there w s.store a f new i n, tt) }

  own_value_k : (s : Shape) (slot : Slot) → SlotFits (owns s) slot → Keeps (In w) (Fits s) (own_value slot)
  own_value_k s absent h = absurd h
  own_value_k s (holds v) h = pure_l v h
  own_value_k s (refers l) h = absurd h
  own_value_k s (runs body maker) h = absurd h

  pub root_value_k : (f : Frame) (act : Activation) (root : Root) (s : Shape) → ActivationFits f act → RootIs f root s → Keeps (In w) (Fits s) (root_value root act)
  root_value_k f act (binding x) s h e = own_value_k s (act.slots x) (subst (λ k. SlotFits k (act.slots x)) e (h.slots x))
  root_value_k f act (temporary n) s h e = pure_l _ (subst (λ t. Fits t (act.temporaries n)) e (h.temporaries n))
  root_value_k f act result s h e = pure_l _ (subst (λ t. Fits t act.result) e h.result)

-- a value in a root, and its shape with it
pub with_root_fits : (f : Frame) (act : Activation) (root : Root) (s : Shape) (new : Val) → ActivationFits f act → Fits s new → ActivationFits (with_root_shape root s f) (with_root root new act)
with_root_fits f act (binding x) s new h n = record { body = h.body; maker = h.maker; slots = slots; temporaries = h.temporaries; result = h.result }
  where
    at_one : (y : ℕ) (b : Bool) → SlotFits (if b then owns s else f.kinds y) (if b then holds new else act.slots y)
    at_one y true = n
    at_one y false = h.slots y

    slots : (y : ℕ) → SlotFits (with_at x (owns s) f.kinds y) (with_at x (holds new) act.slots y)
    slots y = at_one y (x == y)
with_root_fits f act (temporary m) s new h n = record { body = h.body; maker = h.maker; slots = h.slots; temporaries = temporaries; result = h.result }
  where
    at_one : (y : ℕ) (b : Bool) → Fits (if b then s else f.waits y) (if b then new else act.temporaries y)
    at_one y true = n
    at_one y false = h.temporaries y

    temporaries : (y : ℕ) → Fits (with_at m s f.waits y) (with_at m new act.temporaries y)
    temporaries y = at_one y (m == y)
with_root_fits f act result s new h n = record { body = h.body; maker = h.maker; slots = h.slots; temporaries = h.temporaries; result = n }

-- a root of the shape that it had
pub root_again : (f : Frame) (act : Activation) (root : Root) (s : Shape) → RootIs f root s → ActivationFits (with_root_shape root s f) act → ActivationFits f act
root_again f act (binding x) s e h = record { body = h.body; maker = h.maker; slots = slots; temporaries = h.temporaries; result = h.result }
  where
    at_one : (y : ℕ) (b : Bool) → (x == y) ≡ b → SlotFits (if b then owns s else f.kinds y) (act.slots y) → SlotFits (f.kinds y) (act.slots y)
    at_one y true q g = subst (λ k. SlotFits k (act.slots y)) (sym e ∙ ap f.kinds ((Decides-eqb x y).0 q)) g
    at_one y false q g = g

    slots : (y : ℕ) → SlotFits (f.kinds y) (act.slots y)
    slots y = at_one y (x == y) refl (h.slots y)
root_again f act (temporary m) s e h = record { body = h.body; maker = h.maker; slots = h.slots; temporaries = temporaries; result = h.result }
  where
    at_one : (y : ℕ) (b : Bool) → (m == y) ≡ b → Fits (if b then s else f.waits y) (act.temporaries y) → Fits (f.waits y) (act.temporaries y)
    at_one y true q g = subst (λ k. Fits k (act.temporaries y)) (sym e ∙ ap f.waits ((Decides-eqb m y).0 q)) g
    at_one y false q g = g

    temporaries : (y : ℕ) → Fits (f.waits y) (act.temporaries y)
    temporaries y = at_one y (m == y) refl (h.temporaries y)
root_again f act result s e h = record { body = h.body; maker = h.maker; slots = h.slots; temporaries = h.temporaries; result = subst (λ t. Fits t act.result) (sym e) h.result }

module _ (w : World) where
  pub peek_k : (l : Location) (s : Shape) → Stands w l s → Keeps (In w) (Fits s) (peek l)
  peek_k l s t =
      then_l (then_l (activation_k w l.activation t.frame t.there) (λ act h. root_value_k w t.frame act l.root t.root h t.rooted)) (λ v f.
      or_found_l (value_at l.parts v) (subst (λ z. FoundIs (Fits z) (value_at l.parts v)) t.shape (value_at_fits t.root v l.parts f t.has)))

  -- a write of a value of another shape
  pub put_other_k : (l : Location) (s u : Shape) (new : Val) (t : Stands w l s) → Fits u new → Leads (In w) (λ u. Unit {0}) (In (with_place w l s t u)) (put l new)
  put_other_k l s u new t n =
      then_l (activation_k w l.activation t.frame t.there) (λ act h.
      then_l (root_value_k w t.frame act l.root t.root h t.rooted) (λ old f.
      then_l (or_found_l (with_value_at l.parts new old) (with_value_at_fits t.root old new l.parts u f t.has n)) (λ changed c.
      set_activation_k w l.activation (with_root_shape l.root (replaced t.root l.parts u) t.frame) _
      (with_root_fits t.frame act l.root (replaced t.root l.parts u) changed h c))))

  place_again : (l : Location) (s : Shape) (t : Stands w l s) (acts : List Activation) → StoreFits (with_place w l s t s) acts → StoreFits w acts
  place_again l s t acts h =
      fits_less w l.activation t.frame (with_root_shape l.root t.root t.frame) acts t.there (λ act g. root_again t.frame act l.root t.root t.rooted g)
      (subst (λ z. StoreFits (slice_set w l.activation (with_root_shape l.root z t.frame)) acts)
      (ap (replaced t.root l.parts) (sym t.shape) ∙ replaced_same t.root l.parts) h)

  pub put_k : (l : Location) (s : Shape) (new : Val) → Stands w l s → Fits s new → Keeps (In w) (λ u. Unit {0}) (put l new)
  put_k l s new t n = lead_to (put_other_k l s s new t n) (λ st h. place_again l s t st.store h)

  pub read_k : (l : Location) (s : Shape) → Stands w l s → Keeps (In w) (IsGood s) (read l)
  read_k l s t = then_l (peek_k l s t) (λ v f. pick_l (is_whole v) (λ e. pure_l v (f, e)) (λ e. err_l))

  pub vacate_k : (l : Location) (s : Shape) → Stands w l s → Keeps (In w) (λ u. Unit {0}) (vacate l)
  vacate_k l s t = then_l (peek_k l s t) (λ v f. put_k l s (emptied v) t (emptied_fits s v f))

  pub move_k : (l : Location) (s : Shape) → Stands w l s → Keeps (In w) (IsGood s) (move l)
  move_k l s t = then_l (read_k l s t) (λ v g. next_l (vacate_k l s t) (pure_l v g))

  -- a place further in
  pub below_stands : (l : Location) (s : Shape) (ps : List Part) → Stands w l s → HasParts s ps → Stands w (below l ps) (shape_along s ps)
  below_stands l s ps t h = record {
    frame = t.frame;
    there = t.there;
    root = t.root;
    rooted = t.rooted;
    has = parts_append t.root l.parts ps t.has (subst (λ z. HasParts z ps) (sym t.shape) h);
    shape = shape_append t.root l.parts ps ∙ ap (λ z. shape_along z ps) t.shape;
  }

  -- a value waits at a node
  pub hold_k : (a : ℕ) (f : Frame) (at : At) (v : Val) (s : Shape) → slice_get w a ≡ Some f → f.waits at.id ≡ s → Fits s v → Keeps (In w) (λ l. Stands w l s) (hold a at v)
  hold_k a f at v s e n h = next_l (put_k (root_at a (temporary at.id)) s v here h) (pure_l _ here)
    where
      here : Stands w (root_at a (temporary at.id)) s
      here = record { frame = f; there = e; root = s; rooted = n; has = tt; shape = refl }

  pub log_k : (item : Item) → Keeps (In w) (λ u. Unit {0}) (log_item item)
  log_k item = record { comes = λ s i. (i, tt) }

  pub note_k : (event : Event) → Keeps (In w) (λ u. Unit {0}) (note event)
  note_k event = log_k (happened event)

  pub level_k : (level : ℕ) → Keeps (In w) (λ u. Unit {0}) (take_level level)
  level_k level = pick_l _ (λ e. pure_l tt tt) (λ e. trap_l _ _)

  turn_of_k : (m : ℕ) (s : State) → In w s → CameOut (In w) (λ u. Unit {0}) (turn_of m s)
  turn_of_k zero s i = tt
  turn_of_k (suc m) s i = (i, tt)

  pub turn_k : Keeps (In w) (λ u. Unit {0}) take_turn
  turn_k = record { comes = λ s i. turn_of_k s.turns s i }

  pub slot_k : (a x : ℕ) (f : Frame) → slice_get w a ≡ Some f → Keeps (In w) (SlotFits (f.kinds x)) (slot_at a x)
  slot_k a x f e = then_l (activation_k w a f e) (λ act h. pure_l _ (h.slots x))

  -- ---- calls begin and end

  pub begin_k : (f : Frame) (new : Activation) → ActivationFits f new → Leads (In w) (λ me. me ≡ length w) (In (w ++ f ∷ [])) (begin new)
  begin_k f new h = record { comes = λ s i. (push_fits w s.store f new i h, same_length w s.store i) }

  one_more : (f : Frame) (v : World) → length (v ++ f ∷ []) ≡ suc (length v)
  one_more f [] = refl
  one_more f (g ∷ gs) = ap suc (one_more f gs)

  pop_fits : (f : Frame) (acts : List Activation) → StoreFits (w ++ f ∷ []) acts → StoreFits w (take (length acts - 1) acts)
  pop_fits f acts h =
      let e : length acts ≡ suc (length w) = same_length (w ++ f ∷ []) acts h ∙ one_more f w in
      pop_all w acts f (length acts - 1) (omega arith) h

  pub finish_k : (f : Frame) → Leads (In (w ++ f ∷ [])) (λ u. Unit {0}) (In w) finish
  finish_k f = record { comes = λ s i. (pop_fits f s.store i, tt) }

  -- ---- a binding is made

  set_slot_fits : (f : Frame) (act : Activation) (x : ℕ) (k : Kind) (slot : Slot) → SlotFits k slot → ActivationFits f act → ActivationFits (with_kind x k f) (record act { slots = with_at x slot act.slots })
  set_slot_fits f act x k slot n h = record { body = h.body; maker = h.maker; slots = slots; temporaries = h.temporaries; result = h.result }
    where
      at_one : (y : ℕ) (b : Bool) → SlotFits (if b then k else f.kinds y) (if b then slot else act.slots y)
      at_one y true = n
      at_one y false = h.slots y

      slots : (y : ℕ) → SlotFits (with_at x k f.kinds y) (with_at x slot act.slots y)
      slots y = at_one y (x == y)

  pub set_slot_k : (a x : ℕ) (f : Frame) (k : Kind) (slot : Slot) → slice_get w a ≡ Some f → SlotFits k slot → Leads (In w) (λ u. Unit {0}) (In (slice_set w a (with_kind x k f))) (set_slot a x slot)
  set_slot_k a x f k slot e n = then_l (activation_k w a f e) (λ act h. set_activation_k w a (with_kind x k f) _ (set_slot_fits f act x k slot n h))
