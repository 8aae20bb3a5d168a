-- Paths: what stands at the end of their fields, constructions of cases, and places.
use Rattle.std.specs.Prelude.{ℕ, Bool, true, false, not, List, [], ◌∷◌, ◌++◌, map, Option, Some, None}
use Rattle.own_tree.specs.declared.place.Mode.{Mode}
use Rattle.own_tree.specs.declared.place.Mode.TheVariants as mode
use Rattle.own_tree.specs.declared.place.Ty.{Ty}
use Rattle.own_tree.specs.declared.place.Ty.TheVariants as type
use Rattle.own_tree.specs.declared.span.Span.{Span}
use Rattle.own_tree.specs.declared.tree.Name.{Name}
use Rattle.own_tree.specs.declared.tree.Path.{Path}
use Rattle.own_tree.specs.declared.tree.Root.{Root}
use Rattle.own_tree.specs.declared.tree.Root.TheVariants as root
use Rattle.own_tree.specs.declared.typed.ParamInfo.{ParamInfo}
use Rattle.own_tree.specs.declared.typed.Target.TheVariants as target
use Rattle.own_tree.specs.declared.typed.TypedPath.{TypedPath}
use Rattle.own_tree.specs.TypedSource as typed
use Rattle.own_tree.specs.TypedSource.{TExp}
use Rattle.own_shapes.specs.Types.{is_copyable}
use Rattle.own_judging.specs.Judged.{Judged}
use Rattle.own_judged.specs.Arguments.{Arguments, nothing_given, calling}
use Rattle.own_judged.specs.Codes.{T10, T11, T16, T24, T25, T26, T27}
use Rattle.own_judged.specs.Conditions.{true_that}
use Rattle.own_judged.specs.Names.{Local, Self, Scope, Seen, a_local, a_property, a_method, a_function, the_print, the_read_int, a_type, property, case_of_type, method_of, seen}
use Rattle.own_judged.specs.Rules.{yields, ◌>>=◌, ◌>>◌, holding, the, refused, node}
use Rattle.own_judged.specs.Text.{Text, Method}
use Rattle.own_judged.specs.Values.{at, till, type_of}

-- a method that is not called is no member
abbrev pub missing_member : Option Method → ℕ
missing_member None = T11
missing_member (Some m) = T24

-- `self` in an `init` stands only before a field, and not in a closure
abbrev pub may_stand : Scope → Mode → (fields : List Name) → Bool
may_stand scope mode.SelfInit [] = false
may_stand scope mode.SelfInit (n ∷ ns) = not scope.in_closure
may_stand scope _ fields = true

abbrev pub with_path : Judged TypedPath → Judged TExp
with_path path = do
  p ← path
  yields (typed.path p)

-- a payload is given without a label, and moves or is copied
abbrev pub payload_param : Ty → ParamInfo
payload_param ty = record { label = None; mode = mode.Plain; ty = ty }

module _ (text : Text) where
  -- ---- stored properties

  abbrev pub stored : Ty → Name → Judged (ℕ × Ty)
  stored ty n = do
    f ← the (property text ty n.text) (missing_member (method_of text ty n.text)) n.span
    yields (f.0, f.1.ty)

  -- the fields of a path, from a value of that type on
  abbrev pub way : Ty → List Name → Judged (List ℕ × Ty)
  way ty [] = yields ([], ty)
  way ty (n ∷ ns) = do
    f ← stored ty n
    rest ← way f.1 ns
    yields (f.0 ∷ rest.0, rest.1)

  -- a place, by its binding, the fields before those that are named, and the type at these
  abbrev pub standing :
      (id : ℕ) → Span → (binding : ℕ) → (before : List ℕ) → Ty → List Name → Judged TypedPath
  standing id s x before ty fields = do
    w ← way ty fields
    yields (record { at = at id s w.1; place = record { binding = x; fields = before ++ w.0 } })

  -- a field of a value that is no place
  abbrev pub part : (id : ℕ) → Span → TExp → Name → Judged TExp
  part id s e n = do
    f ← stored (type_of e) n
    holding (true_that (is_copyable text.types f.1)) T27 s
    yields (typed.member (at id s f.1) e f.0)

  abbrev pub parts : Span → TExp → List Name → Judged TExp
  parts s e [] = yields e
  parts s e (n ∷ ns) = do
    id ← node
    m ← part id (till s n.span) e n
    parts s m ns

  -- a member of what stands in parentheses or is called: of a place it is a place
  abbrev pub member_of : (id : ℕ) → Span → TExp → Name → Option TypedPath → Judged TExp
  member_of id s e n None = part id s e n
  member_of id s e n (Some p) = do
    f ← stored p.at.ty n
    yields (typed.path (record {
      at = at id s f.1;
      place = record { binding = p.place.binding; fields = p.place.fields ++ f.0 ∷ [] };
    }))

  -- ---- constructions of cases

  -- `Name.case`, by the number of the type that is named there
  abbrev pub constructed : (id : ℕ) → Span → (named_at : Span) → (type : ℕ) → Name → Arguments → Judged TExp
  constructed id s named_at t n arguments = do
    holding (true_that (text.types.is_enum (type.Named t))) T24 named_at
    c ← the (case_of_type text (type.Named t) n.text) (missing_member (text.method t n.text)) n.span
    calling text id s (type.Named t) (target.Case t c.0) (map payload_param c.1.payloads) arguments

  -- `.case`, of the type that is expected
  abbrev pub implicit : (id : ℕ) → Span → (wanted : Option Ty) → Name → Arguments → Judged TExp
  implicit id s None n arguments = refused T25 s
  implicit id s (Some (type.Named t)) n arguments = do
    holding (true_that (text.types.is_enum (type.Named t))) T11 n.span
    c ← the (case_of_type text (type.Named t) n.text) T11 n.span
    calling text id s (type.Named t) (target.Case t c.0) (map payload_param c.1.payloads) arguments
  implicit id s (Some type.Int) n arguments = refused T11 n.span
  implicit id s (Some type.Bool) n arguments = refused T11 n.span
  implicit id s (Some type.Unit) n arguments = refused T11 n.span
  implicit id s (Some (type.Fun k)) n arguments = refused T11 n.span

  -- a path that begins with the name of a type is a construction, and then a member of that
  abbrev pub of_type : (id : ℕ) → Span → Name → (type : ℕ) → List Name → Judged TExp
  of_type id s n t [] = refused T24 n.span
  of_type id s n t (c ∷ fields) = do
    e ← constructed id (till s c.span) n.span t c nothing_given
    parts s e fields

  -- ---- paths from `self`

  abbrev pub of_self : Scope → (id : ℕ) → Span → (word : Span) → Option Self → List Name → Judged TypedPath
  of_self scope id s word me fields = do
    self ← the me T10 word
    holding (true_that (may_stand scope self.mode fields)) T26 word
    standing id s self.binding [] self.ty fields

  -- a stored property of the enclosing type, by its number and its type
  abbrev pub of_property :
      Scope → (id : ℕ) → Span → Name → Option Self → ℕ → Ty → List Name → Judged TypedPath
  of_property scope id s n me k ty fields = do
    self ← the me T10 n.span
    holding (true_that (may_stand scope self.mode (n ∷ fields))) T26 n.span
    standing id s self.binding (k ∷ []) ty fields

  -- ---- a path that is not called

  -- by its type; a parameter of function type is passed on as a whole
  abbrev pub of_local : (id : ℕ) → Span → Local → Ty → List Name → Judged TExp
  of_local id s l (type.Fun k) [] = yields (typed.function (at id s l.ty) l.binding)
  of_local id s l (type.Fun k) (n ∷ ns) = refused T11 n.span
  of_local id s l type.Int fields = with_path (standing id s l.binding [] l.ty fields)
  of_local id s l type.Bool fields = with_path (standing id s l.binding [] l.ty fields)
  of_local id s l type.Unit fields = with_path (standing id s l.binding [] l.ty fields)
  of_local id s l (type.Named t) fields = with_path (standing id s l.binding [] l.ty fields)

  abbrev pub named : Scope → (id : ℕ) → Span → Name → List Name → Seen → Judged TExp
  named scope id s n fields (a_local l) = of_local id s l l.ty fields
  named scope id s n fields (a_property k f) = with_path (of_property scope id s n scope.self k f.ty fields)
  named scope id s n fields (a_method m) = refused T24 n.span
  named scope id s n fields (a_function c) = refused T24 n.span
  named scope id s n fields the_print = refused T24 n.span
  named scope id s n fields the_read_int = refused T24 n.span
  named scope id s n fields (a_type t) = of_type id s n t fields

  abbrev pub path_value : Scope → (id : ℕ) → Span → Root → List Name → Judged TExp
  path_value scope id s (root.SelfWord word) fields = with_path (of_self scope id s word scope.self fields)
  path_value scope id s (root.Named n) fields = do
    x ← the (seen text scope n.text) T10 n.span
    named scope id s n fields x

  -- ---- a path that has to be a place

  abbrev pub local_place : (id : ℕ) → Path → Local → Ty → Judged TypedPath
  local_place id p l (type.Fun k) = refused T24 p.span
  local_place id p l type.Int = standing id p.span l.binding [] l.ty p.fields
  local_place id p l type.Bool = standing id p.span l.binding [] l.ty p.fields
  local_place id p l type.Unit = standing id p.span l.binding [] l.ty p.fields
  local_place id p l (type.Named t) = standing id p.span l.binding [] l.ty p.fields

  abbrev pub place_by : Scope → (id : ℕ) → Path → Name → Seen → Judged TypedPath
  place_by scope id p n (a_local l) = local_place id p l l.ty
  place_by scope id p n (a_property k f) = of_property scope id p.span n scope.self k f.ty p.fields
  place_by scope id p n (a_method m) = refused T16 p.span
  place_by scope id p n (a_function c) = refused T16 p.span
  place_by scope id p n the_print = refused T16 p.span
  place_by scope id p n the_read_int = refused T16 p.span
  place_by scope id p n (a_type t) = refused T16 p.span

  abbrev pub place_from : Scope → (id : ℕ) → Path → Root → Judged TypedPath
  place_from scope id p (root.SelfWord word) = of_self scope id p.span word scope.self p.fields
  place_from scope id p (root.Named n) = do
    x ← the (seen text scope n.text) T10 n.span
    place_by scope id p n x

  abbrev pub a_place : Scope → Path → Judged TypedPath
  a_place scope p = do
    id ← node
    place_from scope id p p.root
