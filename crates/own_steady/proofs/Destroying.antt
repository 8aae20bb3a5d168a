-- To destroy a value that fits its place never strays, where calls do not.
use Rattle.std.proofs.Common.{◌≡◌, ℕ, zero, suc, ◌+◌, Bool, true, false, List, [], ◌∷◌, Option, Some, None, refl, sym, ap, ◌∙◌, subst}
use Rattle.std.specs.Prelude.{◌==◌, slice_get, slice_set, if◌then◌else◌}
use Rattle.std.proofs.lemmas.Bool.Decides.{Decides-eqb}
use Rattle.own_tree.specs.declared.place.Binding.{Binding}
use Rattle.own_tree.specs.declared.place.Mode.TheVariants as mode
use Rattle.own_tree.specs.declared.place.Ty.{Ty}
use Rattle.own_tree.specs.declared.place.Ty.TheVariants as type
use Rattle.own_tree.specs.declared.typed.BodyKind.{BodyKind}
use Rattle.own_tree.specs.declared.typed.BodyKind.TheVariants as kind
use Rattle.own_tree.specs.TypedSource.{TBody}
use Rattle.own_shapes.specs.Types.{TypeHead, Shape, Shapes, Payloads, no_shapes, no_payloads, payloads, shape_at, tracked, one_case_holds_tracked}
use Rattle.own_shapes.specs.Types as shape
use Rattle.own_runs.specs.Destruction.{Passed, lent, Call, deinit_of, without_number, present_case, run_deinit, destroy_tracked, destroy, destroy_parts, destroy_case, end_value}
use Rattle.own_runs.specs.Events.{ended_by_deinit}
use Rattle.own_runs.specs.Patterns.{payloads_at}
use Rattle.own_runs.specs.Store.{Root, binding, temporary, result, Location, Act, Activation, below, put}
use Rattle.own_runs.specs.Values.{Val, int, bool, unit, struct, variant, hole, all_whole, Part, field, payload}
use Rattle.own_steady.specs.Fits.{IsNumbered, HasCase, Fits, IsGood, part_shape, HasShape, HasPart, replaced}
use Rattle.own_steady.specs.Steady.{a_value, a_place, own_shape, Setting, form, is_in, DeinitSteady}
use Rattle.own_steady.specs.Ways.{Leads, Keeps}
use Rattle.own_steady.specs.Worlds.{owns, Frame, World, SlotFits, ActivationFits, StoreFits, RootIs, Stands, with_root_shape, with_place}
use Rattle.own_steady.proofs.Seeing.{SeesTo, IsPassed}
use Rattle.own_steady.proofs.Steps.{In, then_l, next_l, pure_l, err_l, pick_l, some_l, lead_to, get_set, set_again, fits_less, peek_k, put_k, put_other_k, vacate_k, below_stands, level_k, note_k}
use Rattle.own_steady.proofs.Values.{replaced_has, replaced_there, replaced_back}

-- ---- calls

-- what is passed to the parameters of body j
abbrev pub TakesAll : Setting → ℕ → World → (j : ℕ) → List ℕ → List Passed → Type 0
TakesAll here n w j [] [] = Unit {0}
TakesAll here n w j (x ∷ xs) (p ∷ ps) =
    ((b : Binding) × (slice_get here.program.bindings x ≡ Some b) × (b.body ≡ j) × (own_shape b.mode (here.types.shape b.ty) ≡ here.types.shape b.ty)
    × IsPassed here n w (form here b) b.ty p) × TakesAll here n w j xs ps
TakesAll here n w j [] (p ∷ ps) = ⊥
TakesAll here n w j (x ∷ xs) [] = ⊥

-- `self` of an `init` stands first, and is not passed
abbrev pub Makes : Setting → ℕ → World → (j : ℕ) → List ℕ → List Passed → Ty → Type 0
Makes here n w j [] ps ty = ⊥
Makes here n w j (x ∷ xs) ps ty =
    ((b : Binding) × (slice_get here.program.bindings x ≡ Some b) × (b.body ≡ j) × (b.mode ≡ mode.SelfInit) × (form here b ≡ a_value) × (b.ty ≡ ty)
    × ((head : TypeHead) × (fields : Shapes) × (here.types.shape ty ≡ shape.struct head fields))) × TakesAll here n w j xs ps

abbrev pub Enters : Setting → ℕ → World → (j : ℕ) → BodyKind → List ℕ → List Passed → (back ty : Ty) → Type 0
Enters here n w j kind.Initializer xs ps back ty = Makes here n w j xs ps ty
Enters here n w j kind.Function xs ps back ty = TakesAll here n w j xs ps × (back ≡ ty)
Enters here n w j kind.Method xs ps back ty = TakesAll here n w j xs ps × (back ≡ ty)
Enters here n w j kind.Deinitializer xs ps back ty = TakesAll here n w j xs ps × (back ≡ ty)
Enters here n w j (kind.Closure round) xs ps back ty = TakesAll here n w j xs ps × (back ≡ ty)

-- A call of a body that is there, with what it takes; a maker sees what a closure captures.
pub record Callee (here : Setting) (n : ℕ) (w : World) (j : ℕ) (maker : Option ℕ) (ps : List Passed) (ty : Ty) : Type 0 where
  pub body : TBody
  pub there : slice_get here.program.bodies j ≡ Some body
  pub enters : Enters here n w j body.kind body.params ps body.result ty
  pub captures : (x : ℕ) (b : Binding) → is_in (here.outer j) x ≡ true → slice_get here.program.bindings x ≡ Some b
      → (m : ℕ) × (maker ≡ Some m) × SeesTo here n w m x b

pub record CallsKeep (here : Setting) (run : Call) : Type 0 where
  pub keeps : (n : ℕ) (w : World) (j : ℕ) (maker : Option ℕ) (ps : List Passed) (level : ℕ) (ty : Ty) → Callee here n w j maker ps ty
      → Keeps (In w) (IsGood (here.types.shape ty)) (run j maker ps level)

-- ---- shapes whose tracked parts are of their types

module _ (here : Setting) where
  abbrev mutual
    pub Deep : Shape → Type 0
    Deep shape.number = Unit {0}
    Deep shape.truth = Unit {0}
    Deep shape.no_value = Unit {0}
    Deep shape.closure = Unit {0}
    Deep (shape.struct head fields) = (here.types.shape (type.Named head.number) ≡ shape.struct head fields) × AllDeep fields
    Deep (shape.enum head cases) = CasesDeep cases

    pub AllDeep : Shapes → Type 0
    AllDeep no_shapes = Unit {0}
    AllDeep (shape.shape s ss) = Deep s × AllDeep ss

    pub CasesDeep : Payloads → Type 0
    CasesDeep no_payloads = Unit {0}
    CasesDeep (payloads ss cs) = AllDeep ss × CasesDeep cs

  pub case_deep : (cs : Payloads) (c : ℕ) → CasesDeep cs → AllDeep (payloads_at cs c)
  case_deep no_payloads c d = tt
  case_deep (payloads ss cs) zero d = d.0
  case_deep (payloads ss cs) (suc c) d = case_deep cs c d.1

-- ---- parts in order

abbrev after_shapes : ℕ → Shapes → Shapes
after_shapes zero ss = ss
after_shapes (suc k) no_shapes = no_shapes
after_shapes (suc k) (shape.shape s ss) = after_shapes k ss

IsShape : Shapes → Type 0
IsShape no_shapes = ⊥
IsShape (shape.shape s ss) = Unit {0}

no_first : {A : Type 0} (s : Shape) (ss : Shapes) → no_shapes ≡ shape.shape s ss → A
unfolding IsShape
no_first s ss e = absurd (subst IsShape (sym e) tt)

abbrev first_shape : Shape → Shapes → Shape
first_shape d no_shapes = d
first_shape d (shape.shape s ss) = s

abbrev rest_shapes : Shapes → Shapes
rest_shapes no_shapes = no_shapes
rest_shapes (shape.shape s ss) = ss

at_front : (all : Shapes) (k : ℕ) (s : Shape) (ss : Shapes) → after_shapes k all ≡ shape.shape s ss → HasShape all k × (shape_at all k ≡ s) × (after_shapes (suc k) all ≡ ss)
at_front no_shapes zero s ss e = no_first s ss e
at_front no_shapes (suc k) s ss e = no_first s ss e
at_front (shape.shape t ts) zero s ss e = (tt, ap (first_shape t) e, ap rest_shapes e)
at_front (shape.shape t ts) (suc k) s ss e = at_front ts k s ss e

abbrev pub PartsStand : World → (ℕ → Part) → ℕ → Shapes → Location → Type 0
PartsStand w part k no_shapes l = Unit {0}
PartsStand w part k (shape.shape s ss) l = Stands w (below l (part k ∷ [])) s × PartsStand w part (suc k) ss l

pub parts_stand : (w : World) (l : Location) (whole : Shape) (part : ℕ → Part) (all : Shapes) → Stands w l whole → ((j : ℕ) → HasShape all j → HasPart whole (part j)) → ((j : ℕ) → part_shape whole (part j) ≡ shape_at all j)
    → (k : ℕ) (ss : Shapes) → after_shapes k all ≡ ss → PartsStand w part k ss l
parts_stand w l whole part all t has is k no_shapes e = tt
parts_stand w l whole part all t has is k (shape.shape s ss) e =
    let f = at_front all k s ss e in (
      subst (λ z. Stands w (below l (part k ∷ [])) z) (is k ∙ f.1) (below_stands w l whole (part k ∷ []) t (has k f.0, tt)),
      parts_stand w l whole part all t has is (suc k) ss f.2,
    )

-- ---- a place while its value is taken apart

root_new : (f : Frame) (root : Root) (s : Shape) → RootIs (with_root_shape root s f) root s
root_new f (binding x) s = ap (λ b. if b then owns s else f.kinds x) ((Decides-eqb x x).1 refl)
root_new f (temporary m) s = ap (λ b. if b then s else f.waits m) ((Decides-eqb m m).1 refl)
root_new f result s = refl

pub stands_other : (w : World) (l : Location) (s u : Shape) (t : Stands w l s) → Stands (with_place w l s t u) l u
stands_other w l s u t = record {
  frame = with_root_shape l.root (replaced t.root l.parts u) t.frame;
  there = get_set w l.activation t.frame (with_root_shape l.root (replaced t.root l.parts u) t.frame) t.there;
  root = replaced t.root l.parts u;
  rooted = root_new t.frame l.root (replaced t.root l.parts u);
  has = replaced_has t.root l.parts u t.has;
  shape = replaced_there t.root l.parts u t.has;
}

root_twice : (f : Frame) (act : Activation) (root : Root) (s u : Shape) → RootIs f root s → ActivationFits (with_root_shape root s (with_root_shape root u f)) act → ActivationFits f act
root_twice f act (binding x) s u e h = record { body = h.body; maker = h.maker; slots = slots; temporaries = h.temporaries; result = h.result }
  where
    at_one : (y : ℕ) (b : Bool) → (x == y) ≡ b → SlotFits (if b then owns s else if b then owns u else f.kinds y) (act.slots y) → SlotFits (f.kinds y) (act.slots y)
    at_one y true q g = subst (λ k. SlotFits k (act.slots y)) (sym e ∙ ap f.kinds ((Decides-eqb x y).0 q)) g
    at_one y false q g = g

    slots : (y : ℕ) → SlotFits (f.kinds y) (act.slots y)
    slots y = at_one y (x == y) refl (h.slots y)
root_twice f act (temporary m) s u e h = record { body = h.body; maker = h.maker; slots = h.slots; temporaries = temporaries; result = h.result }
  where
    at_one : (y : ℕ) (b : Bool) → (m == y) ≡ b → Fits (if b then s else if b then u else f.waits y) (act.temporaries y) → Fits (f.waits y) (act.temporaries y)
    at_one y true q g = subst (λ k. Fits k (act.temporaries y)) (sym e ∙ ap f.waits ((Decides-eqb m y).0 q)) g
    at_one y false q g = g

    temporaries : (y : ℕ) → Fits (f.waits y) (act.temporaries y)
    temporaries y = at_one y (m == y) refl (h.temporaries y)
root_twice f act result s u e h = record { body = h.body; maker = h.maker; slots = h.slots; temporaries = h.temporaries; result = subst (λ t. Fits t act.result) (sym e) h.result }

-- the old shape comes back with a value of it
put_back : (w : World) (l : Location) (s u : Shape) (t : Stands w l s) (v : Val) → Fits s v → Leads (In (with_place w l s t u)) (λ x. Unit {0}) (In w) (put l v)
unfolding stands_other
put_back w l s u t v f =
    let v' = with_place w l s t u in
    lead_to (put_other_k v' l u s v (stands_other w l s u t) f) (λ st h.
    fits_less w l.activation t.frame (with_root_shape l.root t.root (with_root_shape l.root (replaced t.root l.parts u) t.frame)) st.store t.there
    (λ act g. root_twice t.frame act l.root t.root (replaced t.root l.parts u) t.rooted g)
    (subst (λ z. StoreFits (slice_set w l.activation (with_root_shape l.root z (with_root_shape l.root (replaced t.root l.parts u) t.frame))) st.store)
    (ap (λ z. replaced (replaced t.root l.parts u) l.parts z) (sym t.shape) ∙ replaced_back t.root l.parts u t.has)
    (subst (λ z. StoreFits z st.store) (set_again w l.activation (with_root_shape l.root (replaced t.root l.parts u) t.frame) _) h)))

-- ---- destruction

module _ (here : Setting) (run : Call) (keep : CallsKeep here run) (deinits : (t : ℕ) → tracked (here.types.shape (type.Named t)) ≡ true → DeinitSteady here t) where
  without_fits : (head : TypeHead) (fields : Shapes) (v : Val) → Fits (shape.struct head fields) v → Fits (shape.struct (record head { has_deinit = false }) fields) (without_number v)
  without_fits head fields hole f = tt
  without_fits head fields (struct type i vs) f = (f.0, tt, f.2)
  without_fits head fields (int n) f = absurd f
  without_fits head fields (bool b) f = absurd f
  without_fits head fields unit f = absurd f
  without_fits head fields (variant present vs) f = absurd f

  deinit_form : (b : Binding) → b.mode ≡ mode.SelfDeinit → form here b ≡ a_place
  deinit_form b e = ap (λ m. form here (record b { mode = m })) e

  deinit_callee : (t : ℕ) (d : DeinitSteady here t) (w : World) (l : Location) → Stands w l (here.types.shape (type.Named t))
      → ((x : ℕ) → is_in (here.outer d.number) x ≡ true → ⊥) → Callee here zero w d.number None (lent l ∷ []) d.body.result
  deinit_callee t d w l s nothing = record {
    body = d.body;
    there = d.there;
    enters = subst (λ z. Enters here zero w d.number z d.body.params (lent l ∷ []) d.body.result d.body.result) (sym d.kind) (
      subst (λ z. TakesAll here zero w d.number z (lent l ∷ [])) (sym d.params) (
        (
          d.self,
          d.declared,
          d.own,
          ap (λ m. own_shape m (here.types.shape d.self.ty)) d.mode,
          subst (λ z. IsPassed here zero w z d.self.ty (lent l)) (sym (deinit_form d.self d.mode)) (subst (λ z. Stands w l (here.types.shape z)) (sym d.ty) s),
        ),
        tt,
      ),
      refl,
    );
    captures = λ x b i e. absurd (nothing x i);
  }

  run_deinit_k : (w : World) (l : Location) (head : TypeHead) (fields : Shapes) (t : Stands w l (shape.struct head fields)) (number level : ℕ)
      → here.types.shape (type.Named head.number) ≡ shape.struct head fields → head.has_deinit ≡ true
      → Leads (In w) (λ u. Unit {0}) (In (with_place w l (shape.struct head fields) t (shape.struct (record head { has_deinit = false }) fields)))
      (run_deinit here.program run head.number number l level)
  run_deinit_k w l head fields t number level e tr =
      let d = deinits head.number (ap tracked e ∙ tr) in
      then_l (some_l {I = In w} {Q = λ (z : ℕ). z ≡ d.number} (deinit_of here.program head.number) d.number d.found refl) (λ body q.
      next_l (subst (λ z. Keeps (In w) (IsGood (here.types.shape d.body.result)) (run z None (lent l ∷ []) level)) (sym q)
      (keep.keeps zero w d.number None (lent l ∷ []) level d.body.result
      (deinit_callee head.number d w l (subst (λ z. Stands w l z) (sym e) t) d.no_outer)))
      (next_l (note_k w (ended_by_deinit head.number number))
      (then_l (peek_k w l (shape.struct head fields) t) (λ v f.
      put_other_k w l (shape.struct head fields) (shape.struct (record head { has_deinit = false }) fields) (without_number v) t (without_fits head fields v f)))))

  tracked_k : (w : World) (l : Location) (head : TypeHead) (fields : Shapes) (t : Stands w l (shape.struct head fields)) → here.types.shape (type.Named head.number) ≡ shape.struct head fields
      → head.has_deinit ≡ true → (v : Val) → Fits (shape.struct head fields) v → (level : ℕ) → {properties : Act (Unit {0})}
      → Keeps (In (with_place w l (shape.struct head fields) t (shape.struct (record head { has_deinit = false }) fields))) (λ u. Unit {0}) properties
      → Keeps (In w) (λ u. Unit {0}) (destroy_tracked here.program run v l level properties)
  tracked_k w l head fields t e tr hole f level h = pure_l tt tt
  tracked_k w l head fields t e tr (struct type (Some number) vs) f level {properties} h =
      subst (λ z. Keeps (In w) (λ u. Unit {0}) (destroy_tracked here.program run (struct z (Some number) vs) l level properties)) (sym f.0)
      (pick_l (all_whole vs)
      (λ q. next_l (next_l (next_l (level_k w (level + 1)) (run_deinit_k w l head fields t number (level + 1) e tr)) h)
      (put_back w l (shape.struct head fields) (shape.struct (record head { has_deinit = false }) fields) t hole tt))
      (λ q. err_l))
  tracked_k w l head fields t e tr (struct type None vs) f level h = absurd (subst (λ d. IsNumbered d None) tr f.1)
  tracked_k w l head fields t e tr (int n) f level h = absurd f
  tracked_k w l head fields t e tr (bool b) f level h = absurd f
  tracked_k w l head fields t e tr unit f level h = absurd f
  tracked_k w l head fields t e tr (variant present vs) f level h = absurd f

  present_k : (w : World) (l : Location) (head : TypeHead) (cases : Payloads) (t : Stands w l (shape.enum head cases)) (v : Val) → Fits (shape.enum head cases) v
      → {each : ℕ → Act (Unit {0})} → ((present : ℕ) → HasCase cases present → Keeps (In w) (λ u. Unit {0}) (each present)) → Keeps (In w) (λ u. Unit {0}) (present_case v each)
  present_k w l head cases t (variant present vs) f h = h present f.0
  present_k w l head cases t hole f h = pure_l tt tt
  present_k w l head cases t (int n) f h = absurd f
  present_k w l head cases t (bool b) f h = absurd f
  present_k w l head cases t unit f h = absurd f
  present_k w l head cases t (struct type i vs) f h = absurd f

  mutual
    pub destroy_k : (s : Shape) (w : World) (l : Location) (level : ℕ) → Stands w l s → Deep here s → Keeps (In w) (λ u. Unit {0}) (destroy here.program run s l level)
    destroy_k shape.number w l level t d = pure_l tt tt
    destroy_k shape.truth w l level t d = pure_l tt tt
    destroy_k shape.no_value w l level t d = pure_l tt tt
    destroy_k shape.closure w l level t d = pure_l tt tt
    destroy_k (shape.struct head fields) w l level t d =
        pick_l head.has_deinit
        (λ e. then_l (peek_k w l (shape.struct head fields) t) (λ v f.
        tracked_k w l head fields t d.0 e v f level
        (parts_k fields (with_place w l (shape.struct head fields) t (shape.struct (record head { has_deinit = false }) fields)) l field 0 (level + 1)
        (parts_stand (with_place w l (shape.struct head fields) t (shape.struct (record head { has_deinit = false }) fields)) l (shape.struct (record head { has_deinit = false }) fields) field fields
        (stands_other w l (shape.struct head fields) (shape.struct (record head { has_deinit = false }) fields) t) (λ j h. h) (λ j. refl) 0 fields refl) d.1)))
        (λ e. parts_k fields w l field 0 level (parts_stand w l (shape.struct head fields) field fields t (λ j h. h) (λ j. refl) 0 fields refl) d.1)
    destroy_k (shape.enum head cases) w l level t d =
        pick_l (one_case_holds_tracked cases)
        (λ e. then_l (peek_k w l (shape.enum head cases) t) (λ v f.
        present_k w l head cases t v f (λ present c.
        next_l (next_l (level_k w (level + 1))
        (case_k cases w l present present (level + 1) c
        (parts_stand w l (shape.enum head cases) (payload present) (payloads_at cases present) t (λ j h. h) (λ j. refl) 0 (payloads_at cases present) refl) d))
        (put_k w l (shape.enum head cases) hole t tt))))
        (λ e. pure_l tt tt)

    parts_k : (ss : Shapes) (w : World) (l : Location) (part : ℕ → Part) (k level : ℕ) → PartsStand w part k ss l → AllDeep here ss → Keeps (In w) (λ u. Unit {0}) (destroy_parts here.program run part k ss l level)
    parts_k no_shapes w l part k level t d = pure_l tt tt
    parts_k (shape.shape s ss) w l part k level t d =
        next_l (destroy_k s w (below l (part k ∷ [])) level t.0 d.0) (parts_k ss w l part (suc k) level t.1 d.1)

    case_k : (cs : Payloads) (w : World) (l : Location) (k present level : ℕ) → HasCase cs k → PartsStand w (payload present) 0 (payloads_at cs k) l → CasesDeep here cs
        → Keeps (In w) (λ u. Unit {0}) (destroy_case here.program run cs k present l level)
    case_k no_payloads w l k present level h t d = absurd h
    case_k (payloads ss cs) w l zero present level h t d = parts_k ss w l (payload present) 0 level t d.0
    case_k (payloads ss cs) w l (suc k) present level h t d = case_k cs w l k present level h t d.1

  -- what a value leaves that is destroyed
  pub end_k : (s : Shape) (w : World) (l : Location) (level : ℕ) → Stands w l s → Deep here s → Keeps (In w) (λ u. Unit {0}) (end_value here.program run s l level)
  end_k s w l level t d = next_l (destroy_k s w l level t d) (vacate_k w l s t)
