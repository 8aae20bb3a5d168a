-- Names and places are found where they are seen.
use Rattle.std.proofs.Common.{◌≡◌, ℕ, zero, suc, Bool, true, false, List, [], ◌∷◌, map, Some, refl, sym, ap, ◌∙◌, subst}
use Rattle.std.specs.Prelude.{◌==◌, ◌≢◌, slice_get, if◌then◌else◌}
use Rattle.own_tree.specs.declared.place.Binding.{Binding}
use Rattle.own_tree.specs.declared.place.Mode.{Mode}
use Rattle.own_tree.specs.declared.place.Mode.TheVariants as mode
use Rattle.own_tree.specs.declared.place.Place.{Place}
use Rattle.own_tree.specs.declared.place.Ty.{Ty}
use Rattle.own_tree.specs.declared.typed.TypedPath.{TypedPath}
use Rattle.own_shapes.specs.Types.{Shape, shape_in, copyable, property_shape}
use Rattle.own_shapes.specs.Types as shape
use Rattle.own_runs.specs.Calls.{declarer, owner_of, through, locate, take_value, closure_in, closure_of}
use Rattle.own_runs.specs.Destruction.{Call, closed}
use Rattle.own_runs.specs.Store.{Slot, absent, holds, refers, runs}
use Rattle.own_runs.specs.Values.{field}
use Rattle.own_steady.specs.Fits.{IsGood, HasPart, HasParts, shape_along, untracked}
use Rattle.own_steady.specs.Steady.{Form, a_value, a_place, a_closure, form_by, is_alias, is_loan, own_shape, Setting, Site, form, IsField, PlaceSteady, NameSteady}
use Rattle.own_steady.specs.Ways.{Keeps}
use Rattle.own_steady.specs.Worlds.{Kind, owns, stands_for, calls, Frame, World, SlotFits, Stands, where_some, declares}
use Rattle.own_steady.proofs.Seeing.{KindFor, Closes, Visible, SeesTo, Seen, was_some}
use Rattle.own_steady.proofs.Steps.{In, then_l, pure_l, pick_l, some_l, none_some, some_same, activation_k, slot_k, read_k, move_k, below_stands}
use Rattle.own_steady.proofs.Values.{fields_along}

-- ---- `self` of an `init` before a property

IsPlaceForm : Form → Type 0
IsPlaceForm a_place = Unit {0}
IsPlaceForm a_value = ⊥
IsPlaceForm a_closure = ⊥

not_opened : (f c : Bool) → form_by false f c false ≡ a_place → ⊥
unfolding IsPlaceForm
not_opened true c e = subst IsPlaceForm (sym e) tt
not_opened false true e = subst IsPlaceForm (sym e) tt
not_opened false false e = subst IsPlaceForm (sym e) tt

pub own_place : (m : Mode) (f c : Bool) (s : Shape) → form_by (is_alias m) f c (is_loan m) ≡ a_place → own_shape m s ≡ s
own_place mode.SelfInit f c s e = absurd (not_opened f c e)
own_place mode.Inout f c s e = refl
own_place mode.PatternBorrowed f c s e = refl
own_place mode.SelfMutating f c s e = refl
own_place mode.SelfDeinit f c s e = refl
own_place mode.Let f c s e = refl
own_place mode.Var f c s e = refl
own_place mode.Plain f c s e = refl
own_place mode.Borrowing f c s e = refl
own_place mode.Consuming f c s e = refl
own_place mode.Turn f c s e = refl
own_place mode.PatternOwned f c s e = refl
own_place mode.SelfBorrowing f c s e = refl
own_place mode.SelfConsuming f c s e = refl
own_place mode.Closure f c s e = refl

pub own_other : (m : Mode) (s : Shape) → m ≢ mode.SelfInit → own_shape m s ≡ s
own_other mode.SelfInit s h = absurd (h refl)
own_other mode.Inout s h = refl
own_other mode.PatternBorrowed s h = refl
own_other mode.SelfMutating s h = refl
own_other mode.SelfDeinit s h = refl
own_other mode.Let s h = refl
own_other mode.Var s h = refl
own_other mode.Plain s h = refl
own_other mode.Borrowing s h = refl
own_other mode.Consuming s h = refl
own_other mode.Turn s h = refl
own_other mode.PatternOwned s h = refl
own_other mode.SelfBorrowing s h = refl
own_other mode.SelfConsuming s h = refl
own_other mode.Closure s h = refl

opened_part : (s : Shape) (k : ℕ) → property_shape (untracked s) k ≡ property_shape s k
opened_part shape.number k = refl
opened_part shape.truth k = refl
opened_part shape.no_value k = refl
opened_part shape.closure k = refl
opened_part (shape.struct head fields) k = refl
opened_part (shape.enum head cases) k = refl

opened_has : (s : Shape) (k : ℕ) → HasPart s (field k) → HasPart (untracked s) (field k)
opened_has (shape.struct head fields) k h = h
opened_has (shape.enum head cases) k h = absurd h
opened_has shape.number k h = absurd h
opened_has shape.truth k h = absurd h
opened_has shape.no_value k h = absurd h
opened_has shape.closure k h = absurd h

-- a way of properties that begins at what a binding has
pub record Way (s t : Shape) (ks : List ℕ) : Type 0 where
  pub has : HasParts t (map field ks)
  pub along : shape_along t (map field ks) ≡ shape_in s ks

opened_way : (s : Shape) (ks : List ℕ) → HasParts s (map field ks) → IsField ks → Way s (untracked s) ks
opened_way s [] h f = absurd f
opened_way s (k ∷ ks) h f = record {
  has = (opened_has s k h.0, subst (λ z. HasParts z (map field ks)) (sym (opened_part s k)) h.1);
  along = ap (λ z. shape_along z (map field ks)) (opened_part s k) ∙ fields_along (property_shape s k) ks;
}

plain_way : (s t : Shape) (ks : List ℕ) → t ≡ s → HasParts s (map field ks) → Way s t ks
plain_way s t ks e h = record { has = subst (λ z. HasParts z (map field ks)) (sym e) h; along = ap (λ z. shape_along z (map field ks)) e ∙ fields_along s ks }

pub own_way : (m : Mode) (s : Shape) (ks : List ℕ) → HasParts s (map field ks) → (m ≡ mode.SelfInit → IsField ks) → Way s (own_shape m s) ks
own_way mode.SelfInit s ks h f = opened_way s ks h (f refl)
own_way mode.Inout s ks h f = plain_way s s ks refl h
own_way mode.PatternBorrowed s ks h f = plain_way s s ks refl h
own_way mode.SelfMutating s ks h f = plain_way s s ks refl h
own_way mode.SelfDeinit s ks h f = plain_way s s ks refl h
own_way mode.Let s ks h f = plain_way s s ks refl h
own_way mode.Var s ks h f = plain_way s s ks refl h
own_way mode.Plain s ks h f = plain_way s s ks refl h
own_way mode.Borrowing s ks h f = plain_way s s ks refl h
own_way mode.Consuming s ks h f = plain_way s s ks refl h
own_way mode.Turn s ks h f = plain_way s s ks refl h
own_way mode.PatternOwned s ks h f = plain_way s s ks refl h
own_way mode.SelfBorrowing s ks h f = plain_way s s ks refl h
own_way mode.SelfConsuming s ks h f = plain_way s s ks refl h
own_way mode.Closure s ks h f = plain_way s s ks refl h

-- ---- look-ups

module _ (here : Setting) (run : Call) (me level : ℕ) where
  module _ (w : World) where
    declarer_k : (older body a o : ℕ) → declares older w body a ≡ Some o → Keeps (In w) (λ r. r ≡ o) (declarer here.types here.program run me level older body a)
    declarer_k zero body a o e = none_some o e
    declarer_k (suc older) body a o e =
        let t = was_some (slice_get w a) (λ f. if f.body == body then Some a else where_some f.maker (λ maker. declares older w body maker)) o e in
        then_l (activation_k w a t.0 t.1) (λ act h.
        pick_l (act.body == body)
        (λ is. pure_l a (some_same a o (subst (λ b. (if b then Some a else where_some (t.0).maker (λ maker. declares older w body maker)) ≡ Some o) (ap (λ k. k == body) (sym h.body) ∙ is) t.2)))
        (λ is.
        let m = was_some (t.0).maker (λ maker. declares older w body maker) o
        (subst (λ b. (if b then Some a else where_some (t.0).maker (λ maker. declares older w body maker)) ≡ Some o) (ap (λ k. k == body) (sym h.body) ∙ is) t.2) in
        then_l (some_l {I = In w} {Q = λ (z : ℕ). z ≡ m.0} act.maker m.0 (h.maker ∙ m.1) refl) (λ maker q.
        declarer_k older body maker o (subst (λ z. declares older w body z ≡ Some o) (sym q) m.2))))

    owner_k : (sees : (m y : ℕ) → Binding → Type 0) (x : ℕ) (b : Binding) → slice_get here.program.bindings x ≡ Some b → (v : Visible here sees w me x b)
        → Keeps (In w) (λ a. a ≡ v.owner) (owner_of here.types here.program run me level x)
    owner_k sees x b d v =
        then_l (some_l {I = In w} {Q = λ (c : Binding). c ≡ b} (slice_get here.program.bindings x) b d refl) (λ c q.
        declarer_k (suc me) c.body me v.owner (subst (λ (z : Binding). declares (suc me) w z.body me ≡ Some v.owner) (sym q) v.owned))

    through_k : (sees : (m y : ℕ) → Binding → Type 0) (p : Place) (a : ℕ) (f : Frame) (b : Binding) (fm : Form) → slice_get w a ≡ Some f → (fm ≡ a_closure → ⊥)
        → (fm ≡ a_place → own_shape b.mode (here.types.shape b.ty) ≡ here.types.shape b.ty)
        → HasParts (own_shape b.mode (here.types.shape b.ty)) (map field p.fields)
        → (k : Kind) → f.kinds p.binding ≡ k → KindFor here sees w b fm k → (slot : Slot) → SlotFits k slot
        → Keeps (In w) (λ l. Stands w l (shape_along (own_shape b.mode (here.types.shape b.ty)) (map field p.fields))) (through here.types here.program run me level slot a p)
    through_k sees p a f b a_closure e n o h k q v slot g = absurd (n refl)
    through_k sees p a f b a_value e n o h k q v slot g =
        held slot (subst (λ z. SlotFits z slot) v g)
      where
        held : (slot : Slot) → SlotFits (owns (own_shape b.mode (here.types.shape b.ty))) slot
            → Keeps (In w) (λ l. Stands w l (shape_along (own_shape b.mode (here.types.shape b.ty)) (map field p.fields))) (through here.types here.program run me level slot a p)
        held absent g = absurd g
        held (refers l) g = absurd g
        held (runs body maker) g = absurd g
        held (holds u) g = pure_l _ (record { frame = f; there = e; root = own_shape b.mode (here.types.shape b.ty); rooted = q ∙ v; has = h; shape = refl })
    through_k sees p a f b a_place e n o h k q v slot g =
        held slot (subst (λ z. SlotFits z slot) v.1 g)
      where
        held : (slot : Slot) → SlotFits (stands_for v.0 (here.types.shape b.ty)) slot
            → Keeps (In w) (λ l. Stands w l (shape_along (own_shape b.mode (here.types.shape b.ty)) (map field p.fields))) (through here.types here.program run me level slot a p)
        held absent g = absurd g
        held (holds u) g = absurd g
        held (runs body maker) g = absurd g
        held (refers l) g =
            pure_l _ (below_stands w l (own_shape b.mode (here.types.shape b.ty)) (map field p.fields)
            (subst (λ z. Stands w l z) (sym (o refl)) (subst (λ z. Stands w z (here.types.shape b.ty)) (sym g) v.2)) h)

  module _ (w : World) (n k : ℕ) (ret : Ty) (g : Site) (seen : Seen here n w me k ret g.names) where
    -- a place that is seen is found
    pub place_k : (p : Place) (b : Binding) (s : Shape) → slice_get here.program.bindings p.binding ≡ Some b → PlaceSteady here g p → shape_in (here.types.shape b.ty) p.fields ≡ s
        → Keeps (In w) (λ l. Stands w l s) (locate here.types here.program run me level p)
    place_k p b s d h e =
        let v = seen.sees p.binding b h.seen d in
        let way = own_way b.mode (here.types.shape b.ty) p.fields (h.has b d) (h.opened b d) in
        subst (λ z. Keeps (In w) (λ l. Stands w l z) (locate here.types here.program run me level p)) (way.along ∙ e)
        (then_l (owner_k w (SeesTo here n w) p.binding b d v) (λ a q.
        then_l (slot_k w a p.binding v.frame (ap (slice_get w) q ∙ v.there)) (λ slot fits.
        through_k w (SeesTo here n w) p a v.frame b (form here b) (ap (slice_get w) q ∙ v.there) (h.no_closure b d)
        (λ z. own_place b.mode _ _ (here.types.shape b.ty) z) way.has
        (v.frame.kinds p.binding) refl v.kind slot fits)))

    pub take_value_k : (p : TypedPath) (s : Shape) → Keeps (In w) (λ l. Stands w l s) (locate here.types here.program run me level p.place)
        → Keeps (In w) (IsGood s) (take_value here.types here.program run me level p)
    take_value_k p s h = then_l h (λ l t. pick_l (copyable (here.types.shape p.at.ty)) (λ e. read_k w l s t) (λ e. move_k w l s t))

    closure_in_k : (f : Form) (b : Binding) (k : Kind) (slot : Slot) → f ≡ a_closure → KindFor here (SeesTo here n w) w b f k → SlotFits k slot
        → Keeps (In w) (λ p. (j : ℕ) × (m : ℕ) × (p ≡ closed j m) × Closes here (SeesTo here n w) b.ty j m) (closure_in here.types here.program run me level slot)
    closure_in_k f b k slot e v g =
        let c = subst (λ z. KindFor here (SeesTo here n w) w b z k) e v in
        held c.0 c.1 c.3 slot (subst (λ z. SlotFits z slot) c.2 g)
      where
        held : (j m : ℕ) → Closes here (SeesTo here n w) b.ty j m → (slot : Slot) → SlotFits (calls j m) slot
            → Keeps (In w) (λ p. (j : ℕ) × (m : ℕ) × (p ≡ closed j m) × Closes here (SeesTo here n w) b.ty j m) (closure_in here.types here.program run me level slot)
        held j m c absent g = absurd g
        held j m c (holds u) g = absurd g
        held j m c (refers l) g = absurd g
        held j m c (runs i o) g =
            pure_l (closed i o) (i, o, refl, subst (λ z. Closes here (SeesTo here n w) b.ty i z) (sym g.1) (subst (λ z. Closes here (SeesTo here n w) b.ty z m) (sym g.0) c))

    -- and a closure
    pub closure_k : (x : ℕ) (b : Binding) → slice_get here.program.bindings x ≡ Some b → NameSteady here g x
        → Keeps (In w) (λ p. (j : ℕ) × (m : ℕ) × (p ≡ closed j m) × Closes here (SeesTo here n w) b.ty j m) (closure_of here.types here.program run me level x)
    closure_k x b d h =
        let v = seen.sees x b h.seen d in
        then_l (owner_k w (SeesTo here n w) x b d v) (λ a q.
        then_l (slot_k w a x v.frame (ap (slice_get w) q ∙ v.there)) (λ slot fits.
        closure_in_k (form here b) b (v.frame.kinds x) slot (h.is_closure b d) v.kind fits))
