-- What an activation sees of its names, and that it sees as much where the world has grown.
use Rattle.std.proofs.Common.{◌≡◌, ℕ, zero, suc, ◌≤◌, Bool, true, false, List, [], ◌∷◌, ◌++◌, Option, Some, None, inl, inr, refl, sym, ap, ◌∙◌, subst, arith}
use Rattle.std.specs.Prelude.{◌==◌, ◌⊎◌, ◌||◌, ◌&&◌, slice_get, slice_set, if◌then◌else◌}
use Rattle.std.proofs.lemmas.Bool.Decides.{Decides-eqb}
use Rattle.own_tree.specs.declared.place.Binding.{Binding}
use Rattle.own_tree.specs.declared.place.Ty.{Ty}
use Rattle.own_tree.specs.declared.place.Ty.TheVariants as type
use Rattle.own_tree.specs.declared.typed.BodyKind.TheVariants as kind
use Rattle.own_tree.specs.declared.typed.ParamInfo.{ParamInfo}
use Rattle.own_tree.specs.declared.typed.Signature.{Signature}
use Rattle.own_tree.specs.TypedSource.{TBody}
use Rattle.own_shapes.specs.Types.{Shape}
use Rattle.own_runs.specs.Destruction.{Passed, given, lent, lent_temporary, closed}
use Rattle.own_runs.specs.Store.{Root, binding, temporary, result, Location, Slot, absent, holds, refers, runs, Activation, State, with_at}
use Rattle.own_steady.specs.Fits.{Fits}
use Rattle.own_steady.specs.Steady.{Form, a_value, a_place, a_closure, own_shape, Setting, form, is_in, all_in}
use Rattle.own_steady.specs.Worlds.{Kind, bare, maybe, owns, stands_for, calls, Frame, World, SlotFits, ActivationFits, RootIs, Stands, with_kind, where_some, declares}
use Rattle.own_steady.proofs.Steps.{none_some, some_same, In, fits_less, get_set}

-- ---- names

IsYes : Bool → Type 0
IsYes true = Unit {0}
IsYes false = ⊥

pub no_yes : {A : Type 0} → false ≡ true → A
unfolding IsYes
no_yes e = absurd (subst IsYes (sym e) tt)

pub either : (a b : Bool) → (a || b) ≡ true → (a ≡ true) ⊎ (b ≡ true)
either true b e = inl refl
either false b e = inr e

pub both : (a b : Bool) → (a && b) ≡ true → (a ≡ true) × (b ≡ true)
both true b e = (refl, e)
both false b e = no_yes e

pub on_either : {A B : Type 0} {C : Type 0} → A ⊎ B → (A → C) → (B → C) → C
on_either (inl a) f g = f a
on_either (inr b) f g = g b

pub or_left : (a b : Bool) → a ≡ true → (a || b) ≡ true
or_left true b e = refl
or_left false b e = no_yes e

pub or_right : (a b : Bool) → b ≡ true → (a || b) ≡ true
or_right true b e = refl
or_right false b e = e

pub in_append : (xs ys : List ℕ) (x : ℕ) → is_in (xs ++ ys) x ≡ true → (is_in xs x ≡ true) ⊎ (is_in ys x ≡ true)
in_append [] ys x e = inr e
in_append (y ∷ xs) ys x e =
    on_either (either (y == x) (is_in (xs ++ ys) x) e)
    (λ q. inl (or_left (y == x) (is_in xs x) q))
    (λ q. on_either (in_append xs ys x q) (λ r. inl (or_right (y == x) (is_in xs x) r)) (λ r. inr r))

pub in_all : (those these : List ℕ) (x : ℕ) → all_in those these ≡ true → is_in these x ≡ true → is_in those x ≡ true
in_all those [] x h e = no_yes e
in_all those (y ∷ ys) x h e =
    let q = both (is_in those y) (all_in those ys) h in
    on_either (either (y == x) (is_in ys x) e)
    (λ r. subst (λ z. is_in those z ≡ true) ((Decides-eqb y x).0 r) q.0)
    (λ r. in_all those ys x q.1 r)

-- ---- what is seen

abbrev pub ParamsFor : Setting → (j : ℕ) → List ℕ → List ParamInfo → Type 0
ParamsFor here j [] [] = Unit {0}
ParamsFor here j [] (p ∷ ps) = ⊥
ParamsFor here j (x ∷ xs) [] = ⊥
ParamsFor here j (x ∷ xs) (p ∷ ps) =
    ((b : Binding) × (slice_get here.program.bindings x ≡ Some b) × (b.body ≡ j) × (b.ty ≡ p.ty) × (b.mode ≡ p.mode))
    × ParamsFor here j xs ps

-- A closure that may be called for a function type: its body has the parameters and the result of it.
pub record ClosureBody (here : Setting) (ty : Ty) (j : ℕ) : Type 0 where
  pub function : ℕ
  pub is : ty ≡ type.Fun function
  pub signature : Signature
  pub declared : slice_get here.program.signatures function ≡ Some signature
  pub body : TBody
  pub there : slice_get here.program.bodies j ≡ Some body
  pub round : ℕ
  pub kind : body.kind ≡ kind.Closure round
  pub result : body.result ≡ signature.result
  pub params : ParamsFor here j body.params signature.params

-- its maker sees what it sees; `sees` says so of a maker, a name and its binding
pub record Closes (here : Setting) (sees : (m x : ℕ) → Binding → Type 0) (ty : Ty) (j m : ℕ) : Type 0 where
  pub body : ClosureBody here ty j
  pub captures : (x : ℕ) (b : Binding) → is_in (here.outer j) x ≡ true → slice_get here.program.bindings x ≡ Some b → sees m x b

abbrev pub KindFor : Setting → ((m x : ℕ) → Binding → Type 0) → World → Binding → Form → Kind → Type 0
KindFor here sees w b a_value k = k ≡ owns (own_shape b.mode (here.types.shape b.ty))
KindFor here sees w b a_place k = (l : Location) × (k ≡ stands_for l (here.types.shape b.ty)) × Stands w l (here.types.shape b.ty)
KindFor here sees w b a_closure k = (j : ℕ) × (m : ℕ) × (k ≡ calls j m) × Closes here sees b.ty j m

-- a binding is seen from an activation: it is what it was declared as, where the run finds it
pub record Visible (here : Setting) (sees : (m x : ℕ) → Binding → Type 0) (w : World) (me x : ℕ) (b : Binding) : Type 0 where
  pub owner : ℕ
  pub owned : declares (suc me) w b.body me ≡ Some owner
  pub frame : Frame
  pub there : slice_get w owner ≡ Some frame
  pub kind : KindFor here sees w b (form here b) (frame.kinds x)

-- with the closures that it leads to, so many levels deep
abbrev pub SeesTo : Setting → ℕ → World → (me x : ℕ) → Binding → Type 0
SeesTo here zero w me x b = ⊥
SeesTo here (suc n) w me x b = Visible here (SeesTo here n w) w me x b

-- what is passed for a parameter of a form and a type
abbrev pub IsPassed : Setting → ℕ → World → Form → Ty → Passed → Type 0
IsPassed here n w a_value ty (given l) = Stands w l (here.types.shape ty)
IsPassed here n w a_place ty (lent l) = Stands w l (here.types.shape ty)
IsPassed here n w a_place ty (lent_temporary s l) = Stands w l (here.types.shape ty) × (s ≡ here.types.shape ty)
IsPassed here n w a_closure ty (closed j m) = Closes here (SeesTo here n w) ty j m
IsPassed here n w f ty p = ⊥

-- ---- a world grows

abbrev pub IsBare : Kind → Type 0
IsBare bare = Unit {0}
IsBare (stands_for l s) = Unit {0}
IsBare (calls j m) = Unit {0}
IsBare (maybe s) = ⊥
IsBare (owns s) = ⊥

-- a name is made
abbrev pub KindGrows : Kind → Kind → Type 0
KindGrows bare k = IsBare k
KindGrows (maybe s) k = (k ≡ maybe s) ⊎ (k ≡ owns s)
KindGrows (owns s) k = k ≡ owns s
KindGrows (stands_for l s) k = k ≡ stands_for l s
KindGrows (calls j m) k = k ≡ calls j m

pub record FrameGrows (f g : Frame) : Type 0 where
  pub body : g.body ≡ f.body
  pub maker : g.maker ≡ f.maker
  pub waits : (n : ℕ) → g.waits n ≡ f.waits n
  pub result : g.result ≡ f.result
  pub kinds : (x : ℕ) → KindGrows (f.kinds x) (g.kinds x)

pub record Grows (w v : World) : Type 0 where
  pub frames : (a : ℕ) (f : Frame) → slice_get w a ≡ Some f → (g : Frame) × (slice_get v a ≡ Some g) × FrameGrows f g

kind_same : (k : Kind) → KindGrows k k
kind_same bare = tt
kind_same (maybe s) = inl refl
kind_same (owns s) = refl
kind_same (stands_for l s) = refl
kind_same (calls j m) = refl

pub frame_same : (f : Frame) → FrameGrows f f
frame_same f = record { body = refl; maker = refl; waits = λ n. refl; result = refl; kinds = λ x. kind_same (f.kinds x) }

bare_grows : (k m : Kind) → IsBare k → KindGrows k m → IsBare m
bare_grows bare m h g = g
bare_grows (maybe s) m h g = absurd h
bare_grows (owns s) m h g = absurd h
bare_grows (stands_for l s) m h g = subst IsBare (sym g) tt
bare_grows (calls j n) m h g = subst IsBare (sym g) tt

kind_on : (k l m : Kind) → KindGrows k l → KindGrows l m → KindGrows k m
kind_on bare l m h g = bare_grows l m h g
kind_on (maybe s) l m h g =
    on_either h
    (λ e. subst (λ z. KindGrows z m) e g)
    (λ e. inr (subst (λ z. KindGrows z m) e g))
kind_on (owns s) l m h g = subst (λ z. KindGrows z m) h g
kind_on (stands_for p s) l m h g = subst (λ z. KindGrows z m) h g
kind_on (calls j n) l m h g = subst (λ z. KindGrows z m) h g

pub frame_on : (f g h : Frame) → FrameGrows f g → FrameGrows g h → FrameGrows f h
frame_on f g h a b = record {
  body = b.body ∙ a.body;
  maker = b.maker ∙ a.maker;
  waits = λ n. b.waits n ∙ a.waits n;
  result = b.result ∙ a.result;
  kinds = λ x. kind_on (f.kinds x) (g.kinds x) (h.kinds x) (a.kinds x) (b.kinds x);
}

pub with_kind_grows : (f : Frame) (x : ℕ) (k : Kind) → KindGrows (f.kinds x) k → FrameGrows f (with_kind x k f)
with_kind_grows f x k h = record { body = refl; maker = refl; waits = λ n. refl; result = refl; kinds = λ y. at_one y (x == y) refl }
  where
    at_one : (y : ℕ) (b : Bool) → (x == y) ≡ b → KindGrows (f.kinds y) (if b then k else f.kinds y)
    at_one y true e = subst (λ z. KindGrows (f.kinds z) k) ((Decides-eqb x y).0 e) h
    at_one y false e = kind_same (f.kinds y)

pub push_grows : (w : World) (f : Frame) → Grows w (w ++ f ∷ [])
push_grows w f = record { frames = λ a g e. (g, get_front w a g e, frame_same g) }
  where
    get_front : (v : World) (a : ℕ) (g : Frame) → slice_get v a ≡ Some g → slice_get (v ++ f ∷ []) a ≡ Some g
    get_front [] a g e = none_some g e
    get_front (h ∷ hs) zero g e = e
    get_front (h ∷ hs) (suc a) g e = get_front hs a g e

get_either : (w : World) (a b : ℕ) (f g h : Frame) → slice_get w a ≡ Some f → slice_get w b ≡ Some h → ((a ≡ b) × (slice_get (slice_set w a g) b ≡ Some g)) ⊎ (slice_get (slice_set w a g) b ≡ Some h)
get_either [] a b f g h e q = none_some f e
get_either (c ∷ cs) zero zero f g h e q = inl (refl, refl)
get_either (c ∷ cs) zero (suc b) f g h e q = inr q
get_either (c ∷ cs) (suc a) zero f g h e q = inr q
get_either (c ∷ cs) (suc a) (suc b) f g h e q = on_either (get_either cs a b f g h e q) (λ r. inl (ap suc r.0, r.1)) (λ r. inr r)

pub set_grows : (w : World) (a : ℕ) (f g : Frame) → slice_get w a ≡ Some f → FrameGrows f g → Grows w (slice_set w a g)
set_grows w a f g e h = record {
  frames = λ b k q.
      on_either (get_either w a b f g k e q)
      (λ r. (g, r.1, subst (λ z. FrameGrows z g) (some_same f k (sym e ∙ ap (slice_get w) r.0 ∙ q)) h))
      (λ r. (k, r, frame_same k));
}

pub grows_on : (w v u : World) → Grows w v → Grows v u → Grows w u
grows_on w v u g h = record {
  frames = λ a f e.
      let r = g.frames a f e in
      let q = h.frames a r.0 r.1 in
      (q.0, q.1, frame_on f r.0 q.0 r.2 q.2);
}

-- ---- all that stood stands, and all that was seen is seen

root_grows : (f g : Frame) (root : Root) (s : Shape) → FrameGrows f g → RootIs f root s → RootIs g root s
root_grows f g (binding x) s h e = subst (λ z. KindGrows z (g.kinds x)) e (h.kinds x)
root_grows f g (temporary n) s h e = h.waits n ∙ e
root_grows f g result s h e = h.result ∙ e

pub stands_grows : (w v : World) (l : Location) (s : Shape) → Grows w v → Stands w l s → Stands v l s
stands_grows w v l s h t =
    let g = h.frames l.activation t.frame t.there in
    record { frame = g.0; there = g.1; root = t.root; rooted = root_grows t.frame g.0 l.root t.root g.2 t.rooted; has = t.has; shape = t.shape }

pub was_some : {A B : Type 0} (o : Option A) (next : A → Option B) (r : B) → where_some o next ≡ Some r → (a : A) × (o ≡ Some a) × (next a ≡ Some r)
was_some None next r e = none_some r e
was_some (Some a) next r e = (a, refl, e)

declared_by : (b : Bool) (a : ℕ) (maker : Option ℕ) (next next' : ℕ → Option ℕ) (o : ℕ) → ((m : ℕ) → next m ≡ Some o → next' m ≡ Some o)
    → (if b then Some a else where_some maker next) ≡ Some o → (if b then Some a else where_some maker next') ≡ Some o
declared_by true a maker next next' o h e = e
declared_by false a None next next' o h e = none_some o e
declared_by false a (Some m) next next' o h e = h m e

-- a look-up finds the same in a world that has grown, with more steps left as well
pub declares_grows : (n : ℕ) (w v : World) (body a o : ℕ) → Grows w v → declares n w body a ≡ Some o → declares n v body a ≡ Some o
declares_grows zero w v body a o h e = none_some o e
declares_grows (suc n) w v body a o h e =
    let t = was_some (slice_get w a) (λ f. if f.body == body then Some a else where_some f.maker (λ maker. declares n w body maker)) o e in
    let g = h.frames a t.0 t.1 in
    subst (λ x. where_some x (λ f. if f.body == body then Some a else where_some f.maker (λ maker. declares n v body maker)) ≡ Some o) (sym g.1)
    (subst (λ k. (if k == body then Some a else where_some (g.0).maker (λ maker. declares n v body maker)) ≡ Some o) (sym g.2.body)
    (subst (λ k. (if (t.0).body == body then Some a else where_some k (λ maker. declares n v body maker)) ≡ Some o) (sym g.2.maker)
    (declared_by ((t.0).body == body) a (t.0).maker (λ maker. declares n w body maker) (λ maker. declares n v body maker) o (λ m q. declares_grows n w v body m o h q) t.2)))

pub declares_more : (n m : ℕ) (w : World) (body a o : ℕ) → n ≤ m → declares n w body a ≡ Some o → declares m w body a ≡ Some o
declares_more zero m w body a o le e = none_some o e
declares_more (suc n) zero w body a o le e = absurd (omega arith)
declares_more (suc n) (suc m) w body a o le e =
    let t = was_some (slice_get w a) (λ f. if f.body == body then Some a else where_some f.maker (λ maker. declares n w body maker)) o e in
    subst (λ x. where_some x (λ f. if f.body == body then Some a else where_some f.maker (λ maker. declares m w body maker)) ≡ Some o) (sym t.1)
    (declared_by ((t.0).body == body) a (t.0).maker (λ maker. declares n w body maker) (λ maker. declares m w body maker) o (λ k q. declares_more n m w body k o (omega arith) q) t.2)

module _ (here : Setting) where
  pub kind_for : (sees sees' : (m x : ℕ) → Binding → Type 0) (w v : World) (b : Binding) (f : Form) (k : Kind) → Grows w v
      → ((m x : ℕ) (c : Binding) → sees m x c → sees' m x c) → KindFor here sees w b f k → KindFor here sees' v b f k
  kind_for sees sees' w v b a_value k g h e = e
  kind_for sees sees' w v b a_place k g h e = (e.0, e.1, stands_grows w v e.0 (here.types.shape b.ty) g e.2)
  kind_for sees sees' w v b a_closure k g h e =
      (e.0, e.1, e.2, record { body = e.3.body; captures = λ x c i q. h e.1 x c (e.3.captures x c i q) })

  kind_stays : (sees : (m x : ℕ) → Binding → Type 0) (w : World) (b : Binding) (f : Form) (k m : Kind) → KindGrows k m → KindFor here sees w b f k → KindFor here sees w b f m
  kind_stays sees w b a_value k m g e = subst (λ z. KindGrows z m) e g
  kind_stays sees w b a_place k m g e = (e.0, subst (λ z. KindGrows z m) e.1 g, e.2)
  kind_stays sees w b a_closure k m g e = (e.0, e.1, subst (λ z. KindGrows z m) e.2 g, e.3)

  visible_grows : (sees sees' : (m x : ℕ) → Binding → Type 0) (w v : World) (me x : ℕ) (b : Binding) → Grows w v
      → ((m y : ℕ) (c : Binding) → sees m y c → sees' m y c) → Visible here sees w me x b → Visible here sees' v me x b
  visible_grows sees sees' w v me x b g h t =
      let f = g.frames t.owner t.frame t.there in
      record {
        owner = t.owner;
        owned = declares_grows (suc me) w v b.body me t.owner g t.owned;
        frame = f.0;
        there = f.1;
        kind = kind_stays sees' v b (form here b) (t.frame.kinds x) ((f.0).kinds x) (f.2.kinds x)
            (kind_for sees sees' w v b (form here b) (t.frame.kinds x) g h t.kind);
      }

  pub sees_grows : (n : ℕ) (w v : World) (me x : ℕ) (b : Binding) → Grows w v → SeesTo here n w me x b → SeesTo here n v me x b
  sees_grows zero w v me x b g t = absurd t
  sees_grows (suc n) w v me x b g t = visible_grows (SeesTo here n w) (SeesTo here n v) w v me x b g (λ m y c q. sees_grows n w v m y c g q) t

  pub same_grows : (w : World) → Grows w w
  same_grows w = record { frames = λ a f e. (f, e, frame_same f) }

  pub sees_more : (n : ℕ) (w : World) (me x : ℕ) (b : Binding) → SeesTo here n w me x b → SeesTo here (suc n) w me x b
  sees_more zero w me x b t = absurd t
  sees_more (suc n) w me x b t = visible_grows (SeesTo here n w) (SeesTo here (suc n) w) w w me x b (same_grows w) (λ m y c q. sees_more n w m y c q) t

  pub closes_more : (n : ℕ) (w : World) (ty : Ty) (j m : ℕ) → Closes here (SeesTo here n w) ty j m → Closes here (SeesTo here (suc n) w) ty j m
  closes_more n w ty j m h = record { body = h.body; captures = λ x c i q. sees_more n w m x c (h.captures x c i q) }

  pub closes_grows : (n : ℕ) (w v : World) (ty : Ty) (j m : ℕ) → Grows w v → Closes here (SeesTo here n w) ty j m → Closes here (SeesTo here n v) ty j m
  closes_grows n w v ty j m g h = record { body = h.body; captures = λ x c i q. sees_grows n w v m x c g (h.captures x c i q) }

-- ---- an activation at a site

-- what a name is before it is made
abbrev pub HomeKind : Form → Shape → (inside : Bool) → Kind → Type 0
HomeKind a_value s inside k = (k ≡ maybe s) ⊎ (k ≡ owns s)
HomeKind a_place s true k = Unit {0}
HomeKind a_place s false k = k ≡ bare
HomeKind a_closure s inside k = IsBare k

pub record Seen (here : Setting) (n : ℕ) (w : World) (me k : ℕ) (ret : Ty) (names : List ℕ) : Type 0 where
  pub frame : Frame
  pub there : slice_get w me ≡ Some frame
  pub body : frame.body ≡ k
  pub waits : (node : ℕ) → frame.waits node ≡ here.types.shape (here.node_type node)
  pub result : frame.result ≡ here.types.shape ret
  pub sees : (x : ℕ) (b : Binding) → is_in names x ≡ true → slice_get here.program.bindings x ≡ Some b → SeesTo here (suc n) w me x b
  pub home : (x : ℕ) (b : Binding) → slice_get here.program.bindings x ≡ Some b
      → HomeKind (form here b) (own_shape b.mode (here.types.shape b.ty)) (is_in names x) (frame.kinds x)

module _ (here : Setting) (n : ℕ) where
  abbrev pub world_with : (w : World) (me x : ℕ) → Kind → Frame → World
  world_with w me x k f = slice_set w me (with_kind x k f)

  pub bound_grows : (w : World) (me x : ℕ) (k : Kind) (f : Frame) → slice_get w me ≡ Some f → KindGrows (f.kinds x) k → Grows w (world_with w me x k f)
  bound_grows w me x k f e h = set_grows w me f (with_kind x k f) e (with_kind_grows f x k h)

  -- with one more name, which is one of the body
  pub see_more : (w : World) (me k : ℕ) (ret : Ty) (names : List ℕ) (t : Seen here n w me k ret names) (x : ℕ) (b : Binding) (kd : Kind)
      → slice_get here.program.bindings x ≡ Some b → b.body ≡ k → KindGrows (t.frame.kinds x) kd
      → KindFor here (SeesTo here n (world_with w me x kd t.frame)) (world_with w me x kd t.frame) b (form here b) kd
      → HomeKind (form here b) (own_shape b.mode (here.types.shape b.ty)) true kd
      → Seen here n (world_with w me x kd t.frame) me k ret (x ∷ names)
  see_more w me k ret names t x b kd d own grows kind home_kind = record {
    frame = with_kind x kd t.frame;
    there = get_set w me t.frame (with_kind x kd t.frame) t.there;
    body = t.body;
    waits = t.waits;
    result = t.result;
    sees = λ y c i q. sees_one y c q (x == y) refl i;
    home = λ y c q. home_one y c q (x == y) refl;
  }
    where
      v : World
      v = world_with w me x kd t.frame

      kind_at : (y : ℕ) (z : Bool) → (x == y) ≡ z → z ≡ true → with_at x kd t.frame.kinds y ≡ kd
      kind_at y true e q = ap (λ z. if z then kd else t.frame.kinds y) e
      kind_at y false e q = no_yes q

      itself : SeesTo here (suc n) v me x b
      itself = record {
        owner = me;
        owned = subst (λ z. where_some z (λ f. if f.body == b.body then Some me else where_some f.maker (λ maker. declares me v b.body maker)) ≡ Some me)
            (sym (get_set w me t.frame (with_kind x kd t.frame) t.there))
            (ap (λ z. if z then Some me else where_some t.frame.maker (λ maker. declares me v b.body maker)) ((Decides-eqb t.frame.body b.body).1 (t.body ∙ sym own)));
        frame = with_kind x kd t.frame;
        there = get_set w me t.frame (with_kind x kd t.frame) t.there;
        kind = subst (λ z. KindFor here (SeesTo here n v) v b (form here b) z) (sym (kind_at x (x == x) refl ((Decides-eqb x x).1 refl))) kind;
      }

      sees_one : (y : ℕ) (c : Binding) → slice_get here.program.bindings y ≡ Some c → (z : Bool) → (x == y) ≡ z → (z || is_in names y) ≡ true → SeesTo here (suc n) v me y c
      sees_one y c q true e i =
          subst (λ p. SeesTo here (suc n) v me y p) (some_same b c (sym d ∙ ap (slice_get here.program.bindings) ((Decides-eqb x y).0 e) ∙ q))
          (subst (λ p. SeesTo here (suc n) v me p b) ((Decides-eqb x y).0 e) itself)
      sees_one y c q false e i = sees_grows here (suc n) w v me y c (bound_grows w me x kd t.frame t.there grows) (t.sees y c i q)

      home_one : (y : ℕ) (c : Binding) → slice_get here.program.bindings y ≡ Some c → (z : Bool) → (x == y) ≡ z
          → HomeKind (form here c) (own_shape c.mode (here.types.shape c.ty)) (z || is_in names y) (if z then kd else t.frame.kinds y)
      home_one y c q true e =
          subst (λ p. HomeKind (form here p) (own_shape p.mode (here.types.shape p.ty)) true kd)
          (some_same b c (sym d ∙ ap (slice_get here.program.bindings) ((Decides-eqb x y).0 e) ∙ q)) home_kind
      home_one y c q false e = t.home y c q

-- less is asked of a world where fewer names are made
pub fewer_made : (w : World) (a : ℕ) (f g : Frame) (s : State) → slice_get w a ≡ Some f → FrameGrows f g → In (slice_set w a g) s → In w s
fewer_made w a f g s e h i = fits_less w a f g s.store e (λ act k. less act k) i
  where
    bare_slot : (k : Kind) (slot : Slot) → IsBare k → SlotFits k slot → SlotFits bare slot
    bare_slot bare slot h k = k
    bare_slot (stands_for l s) absent h k = tt
    bare_slot (stands_for l s) (refers p) h k = tt
    bare_slot (stands_for l s) (runs j m) h k = tt
    bare_slot (stands_for l s) (holds v) h k = absurd k
    bare_slot (calls j m) absent h k = tt
    bare_slot (calls j m) (refers p) h k = tt
    bare_slot (calls j m) (runs i n) h k = tt
    bare_slot (calls j m) (holds v) h k = absurd k
    bare_slot (maybe s) slot h k = absurd h
    bare_slot (owns s) slot h k = absurd h

    maybe_slot : (s : Shape) (slot : Slot) → SlotFits (owns s) slot → SlotFits (maybe s) slot
    maybe_slot s absent k = absurd k
    maybe_slot s (holds v) k = k
    maybe_slot s (refers l) k = absurd k
    maybe_slot s (runs j m) k = absurd k

    slot_less : (k m : Kind) (slot : Slot) → KindGrows k m → SlotFits m slot → SlotFits k slot
    slot_less bare m slot g k = bare_slot m slot g k
    slot_less (maybe s) m slot g k =
        on_either g (λ q. subst (λ z. SlotFits z slot) q k) (λ q. maybe_slot s slot (subst (λ z. SlotFits z slot) q k))
    slot_less (owns s) m slot g k = subst (λ z. SlotFits z slot) g k
    slot_less (stands_for l s) m slot g k = subst (λ z. SlotFits z slot) g k
    slot_less (calls j n) m slot g k = subst (λ z. SlotFits z slot) g k

    less : (act : Activation) → ActivationFits g act → ActivationFits f act
    less act k = record {
      body = k.body ∙ h.body;
      maker = k.maker ∙ h.maker;
      slots = λ x. slot_less (f.kinds x) (g.kinds x) (act.slots x) (h.kinds x) (k.slots x);
      temporaries = λ n. subst (λ z. Fits z (act.temporaries n)) (h.waits n) (k.temporaries n);
      result = subst (λ z. Fits z act.result) h.result k.result;
    }
