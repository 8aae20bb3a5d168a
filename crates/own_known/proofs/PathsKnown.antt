-- Paths, constructions of cases and places.
use Rattle.std.specs.Prelude.{◌≡◌, ℕ, Bool, true, false, ◌&&◌, ◌||◌, List, [], ◌∷◌, ◌++◌, map, Option, Some, None, slice_get}
use Rattle.std.proofs.Common.{refl, sym, ap, ◌∙◌, subst}
use Rattle.own_tree.specs.declared.place.Binding.{Binding}
use Rattle.own_tree.specs.declared.place.Ty.{Ty}
use Rattle.own_tree.specs.declared.place.Ty.TheVariants as type
use Rattle.own_tree.specs.declared.span.Span.{Span}
use Rattle.own_tree.specs.declared.tree.Name.{Name}
use Rattle.own_tree.specs.declared.tree.Path.{Path}
use Rattle.own_tree.specs.declared.tree.Root.{Root}
use Rattle.own_tree.specs.declared.tree.Root.TheVariants as root
use Rattle.own_tree.specs.declared.typed.ArgInfo.{ArgInfo}
use Rattle.own_tree.specs.declared.typed.ParamInfo.{ParamInfo}
use Rattle.own_tree.specs.declared.typed.Target.{Target}
use Rattle.own_tree.specs.declared.typed.Target.TheVariants as target
use Rattle.own_tree.specs.declared.typed.TypedPath.{TypedPath}
use Rattle.own_tree.specs.TypedSource as typed
use Rattle.own_tree.specs.TypedSource.{TExp, TExps, Program}
use Rattle.own_paths.specs.Within.{path_of}
use Rattle.own_shapes.specs.declared.info.FieldInfo.{FieldInfo}
use Rattle.own_shapes.specs.Types.{Shape, shape_in, property_shape, is_copyable}
use Rattle.own_calls.specs.Arguments.{arguments_agree, agrees, is_trailing, same_label, takes, same_type}
use Rattle.own_judging.specs.Judged.{Judged}
use Rattle.own_judging.proofs.Conditions.{type_is_same}
use Rattle.own_judged.specs.Arguments.{Arguments, Passed, form_of, nothing_given, passings, calling}
use Rattle.own_judged.specs.Bodies.{owner_type}
use Rattle.own_judged.specs.Conditions.{true_that}
use Rattle.own_judged.specs.Names.{Local, Self, Scope, Seen, a_local, a_property, a_method, a_function, the_print, the_read_int, a_type}
use Rattle.own_judged.specs.Paths.{payload_param, may_stand, stored, way, standing, part, parts, member_of, constructed, implicit, of_type, of_self, of_property, of_local, named, path_value, local_place, place_by, place_from, a_place}
use Rattle.own_judged.specs.Text.{Text}
use Rattle.own_judged.specs.Values.{at, type_of}
use Rattle.own_known.specs.Known.{AllSuit, CallKnown, ExpKnown, ExpsKnown, PathKnown, MayName}
use Rattle.own_known.specs.Surroundings.{IsKnown, TextKnown, LocalKnown, SelfKnown, ScopeKnown, SeenKnown}
use Rattle.own_known.proofs.Scopes.{seen_known}
use Rattle.own_known.proofs.Sure.{Sure, then, gives, holds, there, never, a_node}
use Rattle.own_known.proofs.ValuesKnown.{path_known}

pub further : (s : Shape) (front rest : List ℕ) → shape_in s (front ++ rest) ≡ shape_in (shape_in s front) rest
further s [] rest = refl
further s (k ∷ front) rest = further (property_shape s k) front rest

-- ---- what is said of arguments

-- their types, and how they are written
abbrev pub SaidOf : TExps → List ArgInfo → Type 0
SaidOf typed.no_exps [] = Unit {0}
SaidOf typed.no_exps (i ∷ is) = ⊥
SaidOf (typed.exp e es) [] = ⊥
SaidOf (typed.exp e es) (i ∷ is) = (i.ty ≡ type_of e) × (i.form ≡ form_of e) × SaidOf es is

and_passed : (b c : Bool) → (b && c) ≡ true → (b ≡ true) × (c ≡ true)
and_passed true c e = (refl, e)
and_passed false c e = cc

module _ (text : Text) (program : Program) where
  -- arguments that agree suit their parameters
  pub all_suit :
      (end : ℕ) (ps : List ParamInfo) (es : TExps) (is : List ArgInfo) → SaidOf es is
      → arguments_agree end ps is ≡ true → AllSuit text program ps es
  all_suit end [] typed.no_exps [] said agree = tt
  all_suit end [] typed.no_exps (i ∷ is) said agree = absurd said
  all_suit end [] (typed.exp e es) [] said agree = absurd said
  all_suit end [] (typed.exp e es) (i ∷ is) said agree = absurd (cc)
  all_suit end (p ∷ ps) typed.no_exps [] said agree = absurd (cc)
  all_suit end (p ∷ ps) typed.no_exps (i ∷ is) said agree = absurd said
  all_suit end (p ∷ ps) (typed.exp e es) [] said agree = absurd said
  all_suit end (p ∷ ps) (typed.exp e es) (i ∷ is) said agree =
      let both = and_passed (agrees (is_trailing end (i ∷ is)) p i) (arguments_agree end ps is) agree in
      let labelled = is_trailing end (i ∷ is) || same_label p.label i.label in
      let one = and_passed (labelled && takes p i.form) (same_type p.ty i.ty) both.0 in
      let written = and_passed labelled (takes p i.form) one.0 in (
        sym (type_is_same p.ty i.ty one.1 ∙ said.0),
        ap (takes p) (sym said.1) ∙ written.1,
        all_suit end ps es is said.2 both.1,
      )

module _ (text : Text) (program : Program) (texts : TextKnown text program) where
  abbrev Sure' : {A : Type 0} → Judged A → (A → Type 0) → Type 0
  Sure' j Q = Sure text program j Q

  abbrev Fine : ℕ → TExp → Type 0
  Fine k t = ExpKnown text program k t

  abbrev Place : ℕ → TypedPath → Type 0
  Place k p = PathKnown text program k p

  -- ---- stored properties

  abbrev Stored : Ty → ℕ × Ty → Type 0
  Stored ty r =
      (f : FieldInfo) × (slice_get (text.types.properties ty) r.0 ≡ Some f) × (f.ty ≡ r.1)
      × (property_shape (text.types.shape ty) r.0 ≡ text.types.shape r.1) × IsKnown text program r.1

  pub stored_known : (ty : Ty) (n : Name) → Sure' (stored text ty n) (Stored ty)
  stored_known ty n =
      then _ _ _ _ (there _ _ _) (λ f e. let h = texts.property ty n.text f e in gives _ _ (f.1, h.0, refl, h.1, h.2))

  abbrev Way : Ty → List ℕ × Ty → Type 0
  Way ty w = (shape_in (text.types.shape ty) w.0 ≡ text.types.shape w.1) × IsKnown text program w.1

  pub way_known : (ty : Ty) (ns : List Name) → IsKnown text program ty → Sure' (way text ty ns) (Way ty)
  way_known ty [] known = gives _ _ (refl, known)
  way_known ty (n ∷ ns) known =
      then _ _ _ _ (stored_known ty n)
      (λ f h. then _ _ _ _ (way_known f.1 ns h.4) (λ rest r. gives _ _ (ap (λ s. shape_in s rest.0) h.3 ∙ r.0, r.1)))

  module _ (k : ℕ) where
    pub standing_known :
        (id : ℕ) (s : Span) (x : ℕ) (before : List ℕ) (ty : Ty) (ns : List Name) (b : Binding)
        → MayName text program k x b → shape_in (text.types.shape b.ty) before ≡ text.types.shape ty
        → IsKnown text program ty → Sure' (standing text id s x before ty ns) (Place k)
    standing_known id s x before ty ns b may lies known =
        then _ _ _ _ (way_known ty ns known) (λ w h. gives _ _ (
          b,
          may,
          further (text.types.shape b.ty) before w.0 ∙ ap (λ s. shape_in s w.0) lies ∙ h.0,
          h.1,
        ))

    pub part_known : (id : ℕ) (s : Span) (e : TExp) (n : Name) → Fine k e → Sure' (part text id s e n) (Fine k)
    part_known id s e n h =
        then _ _ _ _ (stored_known (type_of e) n)
        (λ f hf. then _ _ _ _ (holds (true_that (is_copyable text.types f.1)) _ _)
        (λ u c. gives _ _ (h, (hf.0, hf.1, hf.2), hf.4)))

    pub parts_known : (s : Span) (e : TExp) (ns : List Name) → Fine k e → Sure' (parts text s e ns) (Fine k)
    parts_known s e [] h = gives _ _ h
    parts_known s e (n ∷ ns) h =
        then _ _ _ _ a_node (λ id u. then _ _ _ _ (part_known id _ e n h) (λ m hm. parts_known s m ns hm))

    member_by :
        (id : ℕ) (s : Span) (e : TExp) (n : Name) (o : Option TypedPath) → path_of e ≡ o → Fine k e
        → Sure' (member_of text id s e n o) (Fine k)
    member_by id s e n None at_o h = part_known id s e n h
    member_by id s e n (Some p) at_o h =
        let place = path_known text program k e p at_o h in
        then _ _ _ _ (stored_known p.at.ty n) (λ f hf. gives _ _ (
          place.0,
          place.1,
          further (text.types.shape place.0.ty) p.place.fields (f.0 ∷ []) ∙ ap (λ s. property_shape s f.0) place.2
              ∙ hf.3,
          hf.4,
        ))

    pub member_known :
        (id : ℕ) (s : Span) (e : TExp) (n : Name) → Fine k e → Sure' (member_of text id s e n (path_of e)) (Fine k)
    member_known id s e n h = member_by id s e n (path_of e) refl h

    -- ---- arguments and constructions

    abbrev pub Given : Passed → Type 0
    Given g = ExpsKnown text program k g.0 × SaidOf g.0 g.1

    abbrev pub ArgumentsKnown : Arguments → Type 0
    ArgumentsKnown arguments = (s : Span) (ps : List ParamInfo) → Sure' (arguments s ps) Given

    pub nothing_known : ArgumentsKnown nothing_given
    nothing_known s [] = gives _ _ (tt, tt)
    nothing_known s (p ∷ ps) = never _ _ _

    pub calling_known :
        (id : ℕ) (s : Span) (ty : Ty) (to : Target) (params : List ParamInfo) (arguments : Arguments)
        → IsKnown text program ty → ArgumentsKnown arguments
        → ((es : TExps) → AllSuit text program params es
        → CallKnown text program k (at id s ty) to es (passings text params))
        → Sure' (calling text id s ty to params arguments) (Fine k)
    calling_known id s ty to params arguments known sure fits =
        then _ _ _ _ (sure s params) (λ g h. then _ _ _ _ (holds (true_that (arguments_agree s.end params g.1)) _ _)
        (λ u agree. gives _ _ (h.0, known, fits g.0 (all_suit text program s.end params g.0 g.1 h.1 agree))))

    pub constructed_known :
        (id : ℕ) (s at : Span) (t : ℕ) (n : Name) (arguments : Arguments) → IsKnown text program (type.Named t)
        → ArgumentsKnown arguments → Sure' (constructed text id s at t n arguments) (Fine k)
    constructed_known id s at t n arguments known sure =
        then _ _ _ _ (holds (true_that (text.types.is_enum (type.Named t))) _ _)
        (λ u enum. then _ _ _ _ (there _ _ _)
        (λ c e. calling_known id s (type.Named t) (target.Case t c.0)
        (map payload_param c.1.payloads) arguments known sure
        (λ es suit. (c.1, (texts.case_of (type.Named t) n.text c e).2, refl, (suit, refl)))))

    pub implicit_known :
        (id : ℕ) (s : Span) (wanted : Option Ty) (n : Name) (arguments : Arguments) → ArgumentsKnown arguments
        → Sure' (implicit text id s wanted n arguments) (Fine k)
    implicit_known id s None n arguments sure = never _ _ _
    implicit_known id s (Some (type.Named t)) n arguments sure =
        then _ _ _ _ (holds (true_that (text.types.is_enum (type.Named t))) _ _)
        (λ u enum. then _ _ _ _ (there _ _ _)
        (λ c e.
        let case_known = texts.case_of (type.Named t) n.text c e in
        calling_known id s (type.Named t) (target.Case t c.0)
        (map payload_param c.1.payloads) arguments case_known.0 sure
        (λ es suit. (c.1, case_known.2, refl, (suit, refl)))))
    implicit_known id s (Some type.Int) n arguments sure = never _ _ _
    implicit_known id s (Some type.Bool) n arguments sure = never _ _ _
    implicit_known id s (Some type.Unit) n arguments sure = never _ _ _
    implicit_known id s (Some (type.Fun f)) n arguments sure = never _ _ _

    pub of_type_known :
        (id : ℕ) (s : Span) (n : Name) (t : ℕ) (ns : List Name) → IsKnown text program (type.Named t)
        → Sure' (of_type text id s n t ns) (Fine k)
    of_type_known id s n t [] known = never _ _ _
    of_type_known id s n t (c ∷ fields) known =
        then _ _ _ _ (constructed_known id _ n.span t c nothing_given known nothing_known)
        (λ e h. parts_known s e fields h)

    local_stands :
        (id : ℕ) (s : Span) (l : Local) (ns : List Name) → LocalKnown text program k l
        → Sure' (standing text id s l.binding [] l.ty ns) (Place k)
    local_stands id s l ns h = standing_known id s l.binding [] l.ty ns h.0.0 h.0.1 (ap text.types.shape h.0.2) h.1

    pub of_local_known :
        (id : ℕ) (s : Span) (l : Local) (ty : Ty) (ns : List Name) → l.ty ≡ ty → LocalKnown text program k l
        → Sure' (of_local text id s l ty ns) (Fine k)
    of_local_known id s l (type.Fun f) [] e h = gives _ _ (h.0, h.1)
    of_local_known id s l (type.Fun f) (n ∷ ns) e h = never _ _ _
    of_local_known id s l type.Int ns e h = then _ _ _ _ (local_stands id s l ns h) (λ p place. gives _ _ place)
    of_local_known id s l type.Bool ns e h = then _ _ _ _ (local_stands id s l ns h) (λ p place. gives _ _ place)
    of_local_known id s l type.Unit ns e h = then _ _ _ _ (local_stands id s l ns h) (λ p place. gives _ _ place)
    of_local_known id s l (type.Named t) ns e h = then _ _ _ _ (local_stands id s l ns h) (λ p place. gives _ _ place)

    local_place_known :
        (id : ℕ) (p : Path) (l : Local) (ty : Ty) → LocalKnown text program k l
        → Sure' (local_place text id p l ty) (Place k)
    local_place_known id p l (type.Fun f) h = never _ _ _
    local_place_known id p l type.Int h = local_stands id p.span l p.fields h
    local_place_known id p l type.Bool h = local_stands id p.span l p.fields h
    local_place_known id p l type.Unit h = local_stands id p.span l p.fields h
    local_place_known id p l (type.Named t) h = local_stands id p.span l p.fields h

  -- ---- names, at a place

  module _ (scope : Scope) (known : ScopeKnown text program scope) where
    abbrev k : ℕ
    k = scope.body

    pub of_self_known :
        (id : ℕ) (s word : Span) (me : Option Self) (ns : List Name)
        → SelfKnown text program k scope.owner me → Sure' (of_self text scope id s word me ns) (Place k)
    of_self_known id s word me ns h =
        then _ _ _ _ (there _ _ _) (λ self e. then _ _ _ _ (holds (true_that (may_stand scope self.mode ns)) _ _)
        (λ u may.
        let is = subst (SelfKnown text program k scope.owner) e h in
        standing_known k id s self.binding [] self.ty ns is.0.0 is.0.1 (ap text.types.shape is.0.2) is.2))

    -- `self` as a whole, which is of the type that the body is a member of
    pub whole_self_known :
        (id : ℕ) (s word : Span) (me : Option Self) → SelfKnown text program k scope.owner me
        → Sure' (of_self text scope id s word me []) (λ p. Place k p × (p.at.ty ≡ owner_type scope.owner))
    whole_self_known id s word me h =
        then _ _ _ _ (there _ _ _) (λ self e.
        then _ _ _ _ (holds (true_that (may_stand scope self.mode [])) _ _) (λ u may.
        let is = subst (SelfKnown text program k scope.owner) e h in
        then _ _ (λ w. (w.1 ≡ self.ty) × Way self.ty w) _ (gives _ _ (refl, (refl, is.2))) (λ w hw.
        gives _ _ (
          (
            is.0.0,
            is.0.1,
            ap (λ s. shape_in s w.0) (ap text.types.shape is.0.2) ∙ hw.1.0,
            hw.1.1,
          ),
          hw.0 ∙ is.1,
        ))))

    of_property_known :
        (id : ℕ) (s : Span) (n : Name) (me : Option Self) (i : ℕ) (f : FieldInfo) (ns : List Name)
        → SelfKnown text program k scope.owner me → SeenKnown text program scope (a_property i f)
        → Sure' (of_property text scope id s n me i f.ty ns) (Place k)
    of_property_known id s n me i f ns h field =
        then _ _ _ _ (there _ _ _) (λ self e. then _ _ _ _
        (holds (true_that (may_stand scope self.mode (n ∷ ns))) _ _) (λ u may.
        let is = subst (SelfKnown text program k scope.owner) e h in
        let of_owner : is.0.0.ty ≡ type.Named field.0 = is.0.2 ∙ is.1 ∙ ap owner_type field.1 in
        standing_known k id s self.binding (i ∷ []) f.ty ns is.0.0 is.0.1
        (ap (λ ty. property_shape (text.types.shape ty) i) of_owner ∙ field.2.1) field.2.2))

    named_known :
        (id : ℕ) (s : Span) (n : Name) (ns : List Name) (x : Seen) → SeenKnown text program scope x
        → Sure' (named text scope id s n ns x) (Fine k)
    named_known id s n ns (a_local l) h = of_local_known k id s l l.ty ns refl h
    named_known id s n ns (a_property i f) h =
        then _ _ _ _ (of_property_known id s n scope.self i f ns known.self h) (λ p place. gives _ _ place)
    named_known id s n ns (a_method m) h = never _ _ _
    named_known id s n ns (a_function c) h = never _ _ _
    named_known id s n ns the_print h = never _ _ _
    named_known id s n ns the_read_int h = never _ _ _
    named_known id s n ns (a_type t) h = of_type_known k id s n t ns h

    pub path_value_known :
        (id : ℕ) (s : Span) (r : Root) (ns : List Name) → Sure' (path_value text scope id s r ns) (Fine k)
    path_value_known id s (root.SelfWord word) ns =
        then _ _ _ _ (of_self_known id s word scope.self ns known.self) (λ p place. gives _ _ place)
    path_value_known id s (root.Named n) ns =
        then _ _ _ _ (there _ _ _) (λ x e. named_known id s n ns x
        (seen_known text program texts scope known n.text x e))

    place_by_known :
        (id : ℕ) (p : Path) (n : Name) (x : Seen) → SeenKnown text program scope x
        → Sure' (place_by text scope id p n x) (Place k)
    place_by_known id p n (a_local l) h = local_place_known k id p l l.ty h
    place_by_known id p n (a_property i f) h = of_property_known id p.span n scope.self i f p.fields known.self h
    place_by_known id p n (a_method m) h = never _ _ _
    place_by_known id p n (a_function c) h = never _ _ _
    place_by_known id p n the_print h = never _ _ _
    place_by_known id p n the_read_int h = never _ _ _
    place_by_known id p n (a_type t) h = never _ _ _

    place_from_known : (id : ℕ) (p : Path) (r : Root) → Sure' (place_from text scope id p r) (Place k)
    place_from_known id p (root.SelfWord word) = of_self_known id p.span word scope.self p.fields known.self
    place_from_known id p (root.Named n) =
        then _ _ _ _ (there _ _ _) (λ x e. place_by_known id p n x
        (seen_known text program texts scope known n.text x e))

    pub place_known : (p : Path) → Sure' (a_place text scope p) (Place k)
    place_known p = then _ _ _ _ a_node (λ id u. place_from_known id p p.root)
