-- Arguments and calls.
use Rattle.std.specs.Prelude.{◌≡◌, ℕ, not, List, [], ◌∷◌, Option, Some, None}
use Rattle.std.proofs.Common.{refl, ap, ◌∙◌}
use Rattle.own_tree.specs.declared.place.Ty.{Ty}
use Rattle.own_tree.specs.declared.place.Ty.TheVariants as type
use Rattle.own_tree.specs.declared.span.Span.{Span}
use Rattle.own_tree.specs.declared.tree.Name.{Name}
use Rattle.own_tree.specs.declared.tree.Path.{Path}
use Rattle.own_tree.specs.declared.tree.Root.{Root}
use Rattle.own_tree.specs.declared.tree.Root.TheVariants as root
use Rattle.own_tree.specs.declared.typed.ParamInfo.{ParamInfo}
use Rattle.own_tree.specs.declared.typed.ArgInfo.{ArgInfo}
use Rattle.own_tree.specs.declared.typed.Target.TheVariants as target
use Rattle.own_tree.specs.TypedSource.{TExp, TExps, Program}
use Rattle.own_paths.specs.Within.{path_of}
use Rattle.own_calls.specs.Arguments.{arguments_agree}
use Rattle.own_judging.specs.Judged.{Judged}
use Rattle.own_judged.specs.Arguments.{form_of, Arguments, Argument, a_value, a_closure, and_then, trailing, nothing_given, an_item, and_items, printing}
use Rattle.own_judged.specs.Calls.{memberwise, Callee, by_path, by_case, by_member, by_value, may_receive, an_address, sent, sent_by_name, own_receiver, sent_to_path, closure_call, built, called, called_path, call_of_path, call_of, last_of, front_of, last_span}
use Rattle.own_judged.specs.Bodies.{owner_type}
use Rattle.own_judged.specs.Conditions.{true_that}
use Rattle.own_judged.specs.Names.{Local, Self, Scope, Seen, a_local, a_property, a_method, a_function, the_print, the_read_int, a_type, method_of}
use Rattle.own_judged.specs.Text.{Text, Callable, Method}
use Rattle.own_judged.specs.Values.{type_of, till}
use Rattle.own_known.specs.Known.{ExpKnown, ExpsKnown}
use Rattle.own_known.specs.Surroundings.{LocalKnown, IsKnown, TextKnown, SelfKnown, ScopeKnown, SeenKnown}
use Rattle.own_known.proofs.Scopes.{seen_known}
use Rattle.own_known.proofs.Sure.{Sure, then, gives, holds, there, no_fault, never, a_node}
use Rattle.own_known.proofs.PathsKnown.{all_suit, whole_self_known, ArgumentsKnown, nothing_known, calling_known, constructed_known, implicit_known, path_value_known, place_known}

module _ (text : Text) (program : Program) (texts : TextKnown text program) where
  abbrev Sure' : {A : Type 0} → Judged A → (A → Type 0) → Type 0
  Sure' j Q = Sure text program j Q

  abbrev Fine : ℕ → TExp → Type 0
  Fine k t = ExpKnown text program k t

  abbrev AllFine : ℕ → TExps → Type 0
  AllFine k ts = ExpsKnown text program k ts

  -- ---- arguments and items

  module _ (k : ℕ) where
    -- an argument, with what is said of it to its parameter
    abbrev pub Said : TExp × ArgInfo → Type 0
    Said r = Fine k r.0 × (r.1.ty ≡ type_of r.0) × (r.1.form ≡ form_of r.0)

    abbrev pub ArgumentKnown : Argument → Type 0
    ArgumentKnown argument = (s : Span) (p : ParamInfo) → Sure' (argument s p) Said

    pub value_given :
        (label : Option Name) (at : Span) (e : Option Ty → Judged TExp)
        → ((wanted : Option Ty) → Sure' (e wanted) (Fine k)) → ArgumentKnown (a_value label at e)
    value_given label at e sure s p =
        then _ _ _ _ (sure _) (λ t h. then _ _ _ _ (no_fault _ _) (λ u no. gives _ _ (h, refl, refl)))

    pub closure_given :
        (label : Option Name) (at : Span) (literal : Span → Ty → Judged TExp)
        → ((s : Span) (ty : Ty) → Sure' (literal s ty) (Fine k)) → ArgumentKnown (a_closure label at literal)
    closure_given label at literal sure s p = then _ _ _ _ (sure s p.ty) (λ t h. gives _ _ (h, refl, refl))

    pub then_given :
        (first : Argument) (rest : Arguments) → ArgumentKnown first → ArgumentsKnown text program texts k rest
        → ArgumentsKnown text program texts k (and_then first rest)
    then_given first rest one more s [] = never _ _ _
    then_given first rest one more s (p ∷ ps) =
        then _ _ _ _ (one s p) (λ t h. then _ _ _ _ (more s ps) (λ ts hs.
        gives _ _ ((h.0, hs.0), (h.1, h.2, hs.1))))

    pub trailing_given :
        (at : Span) (literal : Span → Ty → Judged TExp) → ((s : Span) (ty : Ty) → Sure' (literal s ty) (Fine k))
        → ArgumentsKnown text program texts k (trailing at literal)
    trailing_given at literal sure =
        then_given (a_closure None at literal) nothing_given (closure_given None at literal sure)
        (nothing_known text program texts k)

    pub item_known :
        (label : Option Name) (call at : Span) (e : Judged TExp) → Sure' e (Fine k)
        → Sure' (an_item label call at e) (Fine k)
    item_known (Some l) call at e sure = never _ _ _
    item_known None call at e sure = then _ _ _ _ sure (λ t h. then _ _ _ _ (no_fault _ _) (λ u no. gives _ _ h))

    pub items_known :
        (first : Judged TExp) (rest : Judged TExps) → Sure' first (Fine k) → Sure' rest (AllFine k)
        → Sure' (and_items first rest) (AllFine k)
    items_known first rest one more = then _ _ _ _ one (λ t h. then _ _ _ _ more (λ ts hs. gives _ _ (h, hs)))

    printing_known :
        (id : ℕ) (s : Span) (items : Judged TExps) → Sure' items (AllFine k) → Sure' (printing id s items) (Fine k)
    printing_known id s items sure = then _ _ _ _ sure (λ ts h. gives _ _ (h, tt, (refl, refl)))

    -- ---- methods

    abbrev OfType : Ty → List ℕ → Method → Type 0
    OfType ty name m =
        (t : ℕ) × (ty ≡ type.Named t) × (text.method t name ≡ Some m) × IsKnown text program m.callable.result

    method_known : (ty : Ty) (name : List ℕ) (m : Method) → method_of text ty name ≡ Some m → OfType ty name m
    method_known (type.Named t) name m e = (t, refl, e, texts.method t name m e)
    method_known type.Int name m e = absurd (cc)
    method_known type.Bool name m e = absurd (cc)
    method_known type.Unit name m e = absurd (cc)
    method_known (type.Fun f) name m e = absurd (cc)

    sent_known :
        (id : ℕ) (s : Span) (receiver : TExp) (m : Method) (arguments : Arguments) (name : List ℕ) → Fine k receiver
        → OfType (type_of receiver) name m → ArgumentsKnown text program texts k arguments
        → Sure' (sent text id s receiver m arguments) (Fine k)
    sent_known id s receiver m arguments name h of sure =
        then _ _ _ _ (holds (true_that (may_receive m.mode (path_of receiver))) _ _) (λ u may.
        then _ _ _ _ (sure s m.callable.params) (λ g hs.
        then _ _ _ _ (holds (true_that (arguments_agree s.end m.callable.params g.1)) _ _) (λ u agree.
        let suit = all_suit text program s.end m.callable.params g.0 g.1 hs.1 agree in
        gives _ _ ((h, hs.0), of.3, (of.0, name, m, of.2, (refl, refl, (receiver, g.0, refl, of.1, suit, refl)))))))

    sent_by_name_known :
        (id : ℕ) (s : Span) (receiver : TExp) (n : Name) (arguments : Arguments) → Fine k receiver
        → ArgumentsKnown text program texts k arguments → Sure' (sent_by_name text id s receiver n arguments) (Fine k)
    sent_by_name_known id s receiver n arguments h sure =
        then _ _ _ _ (no_fault _ _) (λ u value. then _ _ _ _ (no_fault _ _) (λ u no_property.
        then _ _ _ _ (there _ _ _) (λ m e.
        sent_known id s receiver m arguments n.text h (method_known (type_of receiver) n.text m e) sure)))

    -- ---- what is called by a bare name

    closure_call_known :
        (id : ℕ) (s : Span) (l : Local) (ty : Ty) (arguments : Arguments) → l.ty ≡ ty → LocalKnown text program k l
        → ArgumentsKnown text program texts k arguments → Sure' (closure_call text id s l ty arguments) (Fine k)
    closure_call_known id s l (type.Fun f) arguments same h sure =
        then _ _ _ _ (there _ _ _) (λ g e.
        let signature = texts.signature f g e in
        calling_known text program texts k id s g.result (target.Closure l.binding) g.params arguments signature.3 sure
        (λ es suit. (f, g, (h.0.0, h.0.1, h.0.2 ∙ same), signature.0, refl, (suit, refl))))
    closure_call_known id s l type.Int arguments same h sure = never _ _ _
    closure_call_known id s l type.Bool arguments same h sure = never _ _ _
    closure_call_known id s l type.Unit arguments same h sure = never _ _ _
    closure_call_known id s l (type.Named t) arguments same h sure = never _ _ _

    built_known :
        (id : ℕ) (s : Span) (t : ℕ) (o : Option Callable) (arguments : Arguments) → text.initializer t ≡ o
        → IsKnown text program (type.Named t) → ArgumentsKnown text program texts k arguments
        → Sure' (built text id s t o arguments) (Fine k)
    built_known id s t None arguments none known sure =
        calling_known text program texts k id s (type.Named t) (target.Memberwise t) (memberwise text (type.Named t))
        arguments known sure (λ es suit. (none, refl, (suit, refl)))
    built_known id s t (Some c) arguments some known sure =
        calling_known text program texts k id s (type.Named t) (target.Init c.body) c.params arguments known sure
        (λ es suit. (t, c, some, refl, refl, (suit, refl)))

  -- ---- at a place

  module _ (scope : Scope) (known : ScopeKnown text program scope) where
    abbrev k : ℕ
    k = scope.body

    pub address_given : (label : Option Name) (p : Path) → ArgumentKnown k (an_address text scope label p)
    address_given label p s param =
        then _ _ _ _ (place_known text program texts scope known p) (λ q h. gives _ _ (h, refl, refl))

    own_receiver_known :
        (s : Span) (me : Option Self) → SelfKnown text program k scope.owner me
        → Sure' (own_receiver text scope s me) (λ r. Fine k r × (type_of r ≡ owner_type scope.owner))
    own_receiver_known s me h =
        then _ _ _ _ a_node (λ id u. then _ _ _ _ (whole_self_known text program texts scope known id s s me h)
        (λ p place. gives _ _ place))

    abbrev pub CalleeKnown : Callee → Type 0
    CalleeKnown (by_path r ns) = Unit {0}
    CalleeKnown (by_case n) = Unit {0}
    CalleeKnown (by_member e n) = Sure' e (Fine k)
    CalleeKnown by_value = Unit {0}

    module _
        (arguments : Arguments) (sure : ArgumentsKnown text program texts k arguments) (items : Judged TExps)
        (item : Sure' items (AllFine k)) where
      sent_to_path_known :
          (id : ℕ) (s : Span) (r : Root) (first : Span) (n : Name) (ns : List Name)
          → Sure' (sent_to_path text scope id s r first n ns arguments) (Fine k)
      sent_to_path_known id s r first n ns =
          then _ _ _ _ a_node (λ inner u. then _ _ _ _
          (path_value_known text program texts scope known inner (till first (last_span first (front_of n ns))) r
          (front_of n ns))
          (λ receiver h. sent_by_name_known k id s receiver (last_of n ns) arguments h sure))

      called_known :
          (id : ℕ) (s : Span) (n : Name) (x : Seen) → SeenKnown text program scope x
          → Sure' (called text scope id s n arguments items x) (Fine k)
      called_known id s n (a_local l) h = closure_call_known k id s l l.ty arguments refl h sure
      called_known id s n (a_property i f) h = never _ _ _
      called_known id s n (a_method m) h =
          then _ _ _ _ (own_receiver_known n.span scope.self known.self)
          (λ receiver r.
          sent_known k id s receiver m arguments h.1 r.0 (h.0, r.1 ∙ ap owner_type h.2, h.3, h.4) sure)
      called_known id s n (a_function c) h =
          calling_known text program texts k id s c.result (target.Function c.body) c.params arguments h.2 sure
          (λ es suit. (h.0, c, h.1, refl, refl, (suit, refl)))
      called_known id s n the_print h = printing_known k id s items item
      called_known id s n the_read_int h =
          calling_known text program texts k id s type.Int target.ReadInt [] arguments tt sure
          (λ es suit. (refl, (suit, refl)))
      called_known id s n (a_type t) h =
          then _ _ _ _ (holds (true_that (not (text.types.is_enum (type.Named t)))) _ _) (λ u struct.
          built_known k id s t (text.initializer t) arguments refl h sure)

      called_path_known :
          (id : ℕ) (s : Span) (n : Name) (ns : List Name) (x : Seen) → SeenKnown text program scope x
          → Sure' (called_path text scope id s n ns arguments items x) (Fine k)
      called_path_known id s n [] x h = called_known id s n x h
      called_path_known id s n (f ∷ []) (a_type t) h =
          constructed_known text program texts k id s n.span t f arguments h sure
      called_path_known id s n (f ∷ []) (a_local l) h = sent_to_path_known id s (root.Named n) n.span f []
      called_path_known id s n (f ∷ []) (a_property i g) h = sent_to_path_known id s (root.Named n) n.span f []
      called_path_known id s n (f ∷ []) (a_method m) h = sent_to_path_known id s (root.Named n) n.span f []
      called_path_known id s n (f ∷ []) (a_function c) h = sent_to_path_known id s (root.Named n) n.span f []
      called_path_known id s n (f ∷ []) the_print h = sent_to_path_known id s (root.Named n) n.span f []
      called_path_known id s n (f ∷ []) the_read_int h = sent_to_path_known id s (root.Named n) n.span f []
      called_path_known id s n (f ∷ g ∷ fs) (a_type t) h = sent_to_path_known id s (root.Named n) n.span f (g ∷ fs)
      called_path_known id s n (f ∷ g ∷ fs) (a_local l) h = sent_to_path_known id s (root.Named n) n.span f (g ∷ fs)
      called_path_known id s n (f ∷ g ∷ fs) (a_property i e) h =
          sent_to_path_known id s (root.Named n) n.span f (g ∷ fs)
      called_path_known id s n (f ∷ g ∷ fs) (a_method m) h = sent_to_path_known id s (root.Named n) n.span f (g ∷ fs)
      called_path_known id s n (f ∷ g ∷ fs) (a_function c) h = sent_to_path_known id s (root.Named n) n.span f (g ∷ fs)
      called_path_known id s n (f ∷ g ∷ fs) the_print h = sent_to_path_known id s (root.Named n) n.span f (g ∷ fs)
      called_path_known id s n (f ∷ g ∷ fs) the_read_int h = sent_to_path_known id s (root.Named n) n.span f (g ∷ fs)

      path_called :
          (id : ℕ) (s : Span) (r : Root) (ns : List Name)
          → Sure' (call_of_path text scope id s r ns arguments items) (Fine k)
      path_called id s (root.SelfWord word) [] = never _ _ _
      path_called id s (root.SelfWord word) (f ∷ fs) = sent_to_path_known id s (root.SelfWord word) word f fs
      path_called id s (root.Named n) ns =
          then _ _ _ _ (there _ _ _) (λ x e. called_path_known id s n ns x
          (seen_known text program texts scope known n.text x e))

      pub call_known :
          (wanted : Option Ty) (s : Span) (c : Callee) → CalleeKnown c
          → Sure' (call_of text scope wanted s c arguments items) (Fine k)
      call_known wanted s (by_path r ns) h = then _ _ _ _ a_node (λ id u. path_called id s r ns)
      call_known wanted s (by_case n) h =
          then _ _ _ _ a_node (λ id u. implicit_known text program texts k id s wanted n arguments sure)
      call_known wanted s (by_member e n) h =
          then _ _ _ _ a_node (λ id u. then _ _ _ _ h
          (λ receiver r. sent_by_name_known k id s receiver n arguments r sure))
      call_known wanted s by_value h = never _ _ _
