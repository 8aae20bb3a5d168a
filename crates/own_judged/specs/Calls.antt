-- Calls: functions, methods, constructions of structs, parameters of function type, `print` and `readInt`.
use Rattle.std.specs.Prelude.{ℕ, Bool, true, false, not, List, [], ◌∷◌, map, Option, Some, None, slice_get}
use Rattle.own_tree.specs.declared.place.Mode.{Mode}
use Rattle.own_tree.specs.declared.place.Mode.TheVariants as mode
use Rattle.own_tree.specs.declared.place.Ty.{Ty}
use Rattle.own_tree.specs.declared.place.Ty.TheVariants as type
use Rattle.own_tree.specs.declared.span.Span.{Span}
use Rattle.own_tree.specs.declared.tree.MethodMode.{MethodMode}
use Rattle.own_tree.specs.declared.tree.MethodMode.TheVariants as method_mode
use Rattle.own_tree.specs.declared.tree.Name.{Name}
use Rattle.own_tree.specs.declared.tree.Path.{Path}
use Rattle.own_tree.specs.declared.tree.Root.{Root}
use Rattle.own_tree.specs.declared.tree.Root.TheVariants as root
use Rattle.own_tree.specs.declared.typed.ParamInfo.{ParamInfo}
use Rattle.own_tree.specs.declared.typed.Target.TheVariants as target
use Rattle.own_tree.specs.declared.typed.TypedPath.{TypedPath}
use Rattle.own_tree.specs.TypedSource as typed
use Rattle.own_tree.specs.TypedSource.{TExp, TExps}
use Rattle.own_shapes.specs.declared.info.FieldInfo.{FieldInfo}
use Rattle.own_paths.specs.Within.{node_of, path_of}
use Rattle.own_calls.specs.Arguments.{arguments_agree}
use Rattle.own_judging.specs.Judged.{Judged}
use Rattle.own_judged.specs.Arguments.{Arguments, Argument, info, passings, calling, printing}
use Rattle.own_judged.specs.Codes.{T10, T11, T13, T24, T27}
use Rattle.own_judged.specs.Conditions.{true_that}
use Rattle.own_judged.specs.Names.{Local, Self, Scope, Seen, a_local, a_property, a_method, a_function, the_print, the_read_int, a_type, property, method_of, seen}
use Rattle.own_judged.specs.Paths.{with_path, of_self, path_value, a_place, constructed, implicit}
use Rattle.own_judged.specs.Rules.{yields, ◌>>=◌, ◌>>◌, holding, the, refused, unless, node}
use Rattle.own_judged.specs.Text.{Text, Callable, Method}
use Rattle.own_judged.specs.Values.{at, till, type_of, no_value}

-- what stands before the parentheses of a call
pub data Callee : Type 1 where
  by_path : Root → List Name → Callee
  -- `.name`
  by_case : Name → Callee
  -- a member of what stands in parentheses or is called itself
  by_member : Judged TExp → Name → Callee
  -- anything else
  by_value : Callee

-- ---- receivers

-- SE-0390: a method without a modifier borrows `self`
abbrev pub receiver_mode : Option MethodMode → Mode
receiver_mode None = mode.Borrowing
receiver_mode (Some method_mode.Borrowing) = mode.Borrowing
receiver_mode (Some method_mode.Consuming) = mode.Consuming
receiver_mode (Some method_mode.Mutating) = mode.Inout

abbrev pub receiver_param : Option MethodMode → Ty → ParamInfo
receiver_param m ty = record { label = None; mode = receiver_mode m; ty = ty }

-- no mutating method is called on a value that is no place
abbrev pub may_receive : Option MethodMode → Option TypedPath → Bool
may_receive (Some method_mode.Mutating) None = false
may_receive m p = true

-- a stored property is not called
abbrev pub no_method : Option (ℕ × FieldInfo) → Option ℕ
no_method None = None
no_method (Some f) = Some T13

-- ---- names and the last of them

abbrev pub last_of : Name → List Name → Name
last_of n [] = n
last_of n (m ∷ ms) = last_of m ms

abbrev pub front_of : Name → List Name → List Name
front_of n [] = []
front_of n (m ∷ ms) = n ∷ front_of m ms

-- the last of these spans, or the one that stands before them
abbrev pub last_span : Span → List Name → Span
last_span s [] = s
last_span s (n ∷ ns) = last_span n.span ns

module _ (text : Text) where
  -- `&path` (SE-0377)
  abbrev pub an_address : Scope → (label : Option Name) → Path → Argument
  an_address scope label path call p = do
    q ← a_place text scope path
    yields (typed.address q, info label (typed.address q) path.span)

  -- ---- methods

  abbrev pub sent : (id : ℕ) → Span → TExp → Method → Arguments → Judged TExp
  sent id s receiver m arguments = do
    holding (true_that (may_receive m.mode (path_of receiver))) T27 s
    given ← arguments s m.callable.params
    holding (true_that (arguments_agree s.end m.callable.params given.1)) T13 s
    yields (typed.call (at id s m.callable.result) (target.Method m.callable.body) (typed.exp receiver given.0)
        (passings text (receiver_param m.mode (type_of receiver) ∷ m.callable.params)))

  abbrev pub sent_by_name : (id : ℕ) → Span → TExp → Name → Arguments → Judged TExp
  sent_by_name id s receiver n arguments = do
    unless (no_value receiver) (node_of receiver).span
    unless (no_method (property text (type_of receiver) n.text)) s
    m ← the (method_of text (type_of receiver) n.text) T11 n.span
    sent id s receiver m arguments

  -- the receiver of a method of the enclosing type that is called by its bare name
  abbrev pub own_receiver : Scope → Span → Option Self → Judged TExp
  own_receiver scope s me = do
    id ← node
    with_path (of_self text scope id s s me [])

  -- a method of what a path names without its last field
  abbrev pub sent_to_path :
      Scope → (id : ℕ) → Span → Root → (first : Span) → Name → List Name → Arguments → Judged TExp
  sent_to_path scope id s r first n ns arguments = do
    inner ← node
    receiver ← path_value text scope inner (till first (last_span first (front_of n ns))) r (front_of n ns)
    sent_by_name id s receiver (last_of n ns) arguments

  -- ---- what is called by its bare name

  -- a parameter of function type, by its type
  abbrev pub closure_call : (id : ℕ) → Span → Local → Ty → Arguments → Judged TExp
  closure_call id s l (type.Fun k) arguments = do
    f ← the (slice_get text.signatures k) T13 s
    calling text id s f.result (target.Closure l.binding) f.params arguments
  closure_call id s l type.Int arguments = refused T13 s
  closure_call id s l type.Bool arguments = refused T13 s
  closure_call id s l type.Unit arguments = refused T13 s
  closure_call id s l (type.Named t) arguments = refused T13 s

  abbrev pub property_param : FieldInfo → ParamInfo
  property_param f = record { label = Some f.name; mode = mode.Plain; ty = f.ty }

  -- the stored properties of a struct, each by its label
  abbrev pub memberwise : Ty → List ParamInfo
  memberwise ty = map property_param (text.types.properties ty)

  -- a struct, by its `init` where it declares one
  abbrev pub built : (id : ℕ) → Span → (type : ℕ) → Option Callable → Arguments → Judged TExp
  built id s t None arguments =
      calling text id s (type.Named t) (target.Memberwise t) (memberwise (type.Named t)) arguments
  built id s t (Some c) arguments = calling text id s (type.Named t) (target.Init c.body) c.params arguments

  -- with its arguments, or its items where it is `print`
  abbrev pub called : Scope → (id : ℕ) → Span → Name → Arguments → (items : Judged TExps) → Seen → Judged TExp
  called scope id s n arguments items (a_local l) = closure_call id s l l.ty arguments
  called scope id s n arguments items (a_property k f) = refused T13 s
  called scope id s n arguments items (a_method m) = do
    receiver ← own_receiver scope n.span scope.self
    sent id s receiver m arguments
  called scope id s n arguments items (a_function c) =
      calling text id s c.result (target.Function c.body) c.params arguments
  called scope id s n arguments items the_print = printing id s items
  called scope id s n arguments items the_read_int = calling text id s type.Int target.ReadInt [] arguments
  called scope id s n arguments items (a_type t) = do
    holding (true_that (not (text.types.is_enum (type.Named t)))) T24 n.span
    built id s t (text.initializer t) arguments

  -- ---- calls of paths

  abbrev pub called_path :
      Scope → (id : ℕ) → Span → Name → List Name → Arguments → (items : Judged TExps) → Seen → Judged TExp
  called_path scope id s n [] arguments items x = called scope id s n arguments items x
  called_path scope id s n (f ∷ []) arguments items (a_type t) = constructed text id s n.span t f arguments
  called_path scope id s n (f ∷ fs) arguments items x =
      sent_to_path scope id s (root.Named n) n.span f fs arguments

  abbrev pub call_of_path :
      Scope → (id : ℕ) → Span → Root → List Name → Arguments → (items : Judged TExps) → Judged TExp
  call_of_path scope id s (root.SelfWord word) [] arguments items = refused T13 s
  call_of_path scope id s (root.SelfWord word) (f ∷ fs) arguments items =
      sent_to_path scope id s (root.SelfWord word) word f fs arguments
  call_of_path scope id s (root.Named n) fields arguments items = do
    x ← the (seen text scope n.text) T10 n.span
    called_path scope id s n fields arguments items x

  -- ---- any call

  abbrev pub call_of :
      Scope → (wanted : Option Ty) → Span → Callee → Arguments → (items : Judged TExps) → Judged TExp
  call_of scope wanted s (by_path r fields) arguments items = do
    id ← node
    call_of_path scope id s r fields arguments items
  call_of scope wanted s (by_case n) arguments items = do
    id ← node
    implicit text id s wanted n arguments
  call_of scope wanted s (by_member e n) arguments items = do
    id ← node
    receiver ← e
    sent_by_name id s receiver n arguments
  call_of scope wanted s by_value arguments items = refused T13 s
