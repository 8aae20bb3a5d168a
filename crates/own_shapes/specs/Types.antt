-- What types are made of: by recursion on the declarations of a text, and then on the shape that a type unfolds to.
use Rattle.std.specs.Prelude.{◌≡◌, ℕ, zero, suc, ◌+◌, ◌<◌, max, nat_lt, Contains, IsTrue, Bool, true, false, not, ◌||◌, if◌then◌else◌, List, [], ◌∷◌, ◌++◌, length, map, slice_get, slice_index_or, Option, Some, None, codes}
use Rattle.std.specs.List.{list_all}
use Rattle.std.specs.Str.{bytes_eq}
use Rattle.own_tree.specs.declared.place.Ty.{Ty}
use Rattle.own_tree.specs.declared.place.Ty.TheVariants as type
use Rattle.own_tree.specs.declared.tree.CaseItem.{CaseItem}
use Rattle.own_tree.specs.declared.tree.Field.{Field}
use Rattle.own_tree.specs.declared.tree.Keyword.{Keyword}
use Rattle.own_tree.specs.declared.tree.Keyword.TheVariants as keyword
use Rattle.own_tree.specs.declared.tree.Name.{Name}
use Rattle.own_shapes.specs.declared.info.FieldInfo.{FieldInfo}
use Rattle.own_shapes.specs.declared.info.CaseInfo.{CaseInfo}
use Rattle.own_shapes.specs.declared.info.TypeInfo.{TypeInfo}
use Rattle.own_tree.specs.Source.{Member, field, initializer, deinitializer, method, cases, Decl, struct_of, enum_of, function, File}

-- ---- shapes: a type with all that it contains, which is finite, since no type contains itself

-- what a declaration says of its own type
pub record TypeHead : Type 0 where
  -- it is the type declared after so many others
  pub number : ℕ
  pub noncopyable : Bool
  pub has_deinit : Bool
  -- for each stored property whether it is a `var`
  pub changes : List Bool

mutual
  pub data Shape : Type 0 where
    number : Shape
    truth : Shape
    -- what a body without a result gives
    no_value : Shape
    closure : Shape
    struct : TypeHead → Shapes → Shape
    -- the payloads of each case
    enum : TypeHead → Payloads → Shape

  pub data Shapes : Type 0 where
    no_shapes : Shapes
    shape : Shape → Shapes → Shapes

  pub data Payloads : Type 0 where
    no_payloads : Payloads
    payloads : Shapes → Payloads → Payloads

-- `Int`, `Bool` and all that is not declared `: ~Copyable` (SE-0390)
abbrev pub copyable : Shape → Bool
copyable number = true
copyable truth = true
copyable no_value = true
copyable closure = true
copyable (struct head fields) = not head.noncopyable
copyable (enum head cs) = not head.noncopyable

-- a struct with a `deinit` (SE-0390)
abbrev pub tracked : Shape → Bool
tracked number = false
tracked truth = false
tracked no_value = false
tracked closure = false
tracked (struct head fields) = head.has_deinit
tracked (enum head cs) = false

-- tracked, or with a stored property or a payload that holds a tracked value
abbrev mutual
  pub holds_tracked : Shape → Bool
  holds_tracked number = false
  holds_tracked truth = false
  holds_tracked no_value = false
  holds_tracked closure = false
  holds_tracked (struct head fields) = head.has_deinit || one_holds_tracked fields
  holds_tracked (enum head cs) = one_case_holds_tracked cs

  pub one_holds_tracked : Shapes → Bool
  one_holds_tracked no_shapes = false
  one_holds_tracked (shape s ss) = holds_tracked s || one_holds_tracked ss

  pub one_case_holds_tracked : Payloads → Bool
  one_case_holds_tracked no_payloads = false
  one_case_holds_tracked (payloads ss cs) = one_holds_tracked ss || one_case_holds_tracked cs

abbrev pub is_empty : {A : Type 0} → List A → Bool
is_empty [] = true
is_empty (x ∷ xs) = false

abbrev pub is_none : Shapes → Bool
is_none no_shapes = true
is_none (shape s ss) = false

-- The parts of a type that are made and consumed by themselves (SE-0429), each as the numbers of the stored
-- properties that lead to it: a struct that has properties and no `deinit` comes apart into the leaves of these,
-- in order of declaration, and every other type is one leaf.
abbrev mutual
  pub leaves : Shape → List (List ℕ)
  leaves number = [] ∷ []
  leaves truth = [] ∷ []
  leaves no_value = [] ∷ []
  leaves closure = [] ∷ []
  leaves (struct head fields) = if head.has_deinit || is_none fields then [] ∷ [] else leaves_from 0 fields
  leaves (enum head cs) = [] ∷ []

  -- those of the properties from number k on
  pub leaves_from : ℕ → Shapes → List (List ℕ)
  leaves_from k no_shapes = []
  leaves_from k (shape s ss) = map (λ path. k ∷ path) (leaves s) ++ leaves_from (suc k) ss

-- those of `self` in an `init`, which is opened once, whatever its type
abbrev pub opened_leaves : Shape → List (List ℕ)
opened_leaves number = leaves number
opened_leaves truth = leaves truth
opened_leaves no_value = leaves no_value
opened_leaves closure = leaves closure
opened_leaves (struct head fields) = leaves_from 0 fields
opened_leaves (enum head cs) = leaves (enum head cs)

abbrev pub one_if : Bool → ℕ
one_if true = 1
one_if false = 0

-- The slots of a type, which are the words that a value takes in a frame. A `deinit` asks for one to hold whether
-- the value is there, and an enum for one to hold the case.
abbrev mutual
  pub slots : Shape → ℕ
  slots number = 1
  slots truth = 1
  slots no_value = 0
  slots closure = 2
  slots (struct head fields) = one_if (head.has_deinit || is_none fields) + all_slots fields
  slots (enum head cs) = 1 + most_slots cs

  pub all_slots : Shapes → ℕ
  all_slots no_shapes = 0
  all_slots (shape s ss) = slots s + all_slots ss

  -- the largest sum of the payloads of one case
  pub most_slots : Payloads → ℕ
  most_slots no_payloads = 0
  most_slots (payloads ss cs) = max (all_slots ss) (most_slots cs)

-- the shape of property k, of a type that has it
abbrev pub shape_at : Shapes → ℕ → Shape
shape_at no_shapes k = no_value
shape_at (shape s ss) zero = s
shape_at (shape s ss) (suc k) = shape_at ss k

-- whether property k is a `let`
abbrev pub is_let : Shape → ℕ → Bool
is_let number k = false
is_let truth k = false
is_let no_value k = false
is_let closure k = false
is_let (struct head fields) k = not (slice_index_or head.changes k true)
is_let (enum head cs) k = false

abbrev pub property_shape : Shape → ℕ → Shape
property_shape number k = no_value
property_shape truth k = no_value
property_shape no_value k = no_value
property_shape closure k = no_value
property_shape (struct head fields) k = shape_at fields k
property_shape (enum head cs) k = no_value

-- whether a property on the way of these numbers is a `let`
abbrev pub passes_let : Shape → List ℕ → Bool
passes_let s [] = false
passes_let s (k ∷ ks) = is_let s k || passes_let (property_shape s k) ks

-- the shape at the end of a way
abbrev pub shape_in : Shape → List ℕ → Shape
shape_in s [] = s
shape_in s (k ∷ ks) = shape_in (property_shape s k) ks

-- ---- the types of a text

-- What a program knows of its types. The properties and the cases of a type that has none are the empty list.
pub record Types : Type 0 where
  pub shape : Ty → Shape
  pub properties : Ty → List FieldInfo
  pub cases : Ty → List CaseInfo
  pub is_enum : Ty → Bool
  -- the name of a declared type
  pub name : Ty → List ℕ
  -- how many are declared
  pub count : ℕ

abbrev pub is_copyable : Types → Ty → Bool
is_copyable types ty = copyable (types.shape ty)

-- the declaration of a struct or an enum
pub record Declared : Type 0 where
  pub name : Name
  pub is_enum : Bool
  pub noncopyable : Bool
  pub has_deinit : Bool
  pub fields : List Field
  pub cases : List CaseItem

abbrev pub fields_of : List Member → List Field
fields_of [] = []
fields_of (field f ∷ ms) = f ∷ fields_of ms
fields_of (initializer s ps b ∷ ms) = fields_of ms
fields_of (deinitializer s b ∷ ms) = fields_of ms
fields_of (method s mode f ∷ ms) = fields_of ms
fields_of (cases s cs ∷ ms) = fields_of ms

abbrev pub cases_of : List Member → List CaseItem
cases_of [] = []
cases_of (field f ∷ ms) = cases_of ms
cases_of (initializer s ps b ∷ ms) = cases_of ms
cases_of (deinitializer s b ∷ ms) = cases_of ms
cases_of (method s mode f ∷ ms) = cases_of ms
cases_of (cases s cs ∷ ms) = cs ++ cases_of ms

abbrev pub has_deinit : List Member → Bool
has_deinit [] = false
has_deinit (field f ∷ ms) = has_deinit ms
has_deinit (initializer s ps b ∷ ms) = has_deinit ms
has_deinit (deinitializer s b ∷ ms) = true
has_deinit (method s mode f ∷ ms) = has_deinit ms
has_deinit (cases s cs ∷ ms) = has_deinit ms

abbrev pub declared_as : Bool → Name → Bool → List Member → Declared
declared_as is_enum name noncopyable ms =
    record { name = name; is_enum = is_enum; noncopyable = noncopyable; has_deinit = has_deinit ms; fields = fields_of ms; cases = cases_of ms }

-- the structs and enums in order
abbrev pub declared_types : List Decl → List Declared
declared_types [] = []
declared_types (struct_of s name noncopyable ms ∷ ds) = declared_as false name noncopyable ms ∷ declared_types ds
declared_types (enum_of s name noncopyable ms ∷ ds) = declared_as true name noncopyable ms ∷ declared_types ds
declared_types (function f ∷ ds) = declared_types ds

-- the number of the first type of that name
abbrev pub type_number : ℕ → List Declared → List ℕ → Option ℕ
type_number k [] name = None
type_number k (d ∷ ds) name = if bytes_eq d.name.text name then Some k else type_number (suc k) ds name

abbrev pub named : Option ℕ → Ty
named (Some k) = type.Named k
named None = type.Unit

-- The type that a name names. One that names no type, which T01 refuses, counts as `Unit`, which has no part.
abbrev pub written_type : List Declared → List ℕ → Ty
written_type ds name =
    if bytes_eq name (codes "Int") then type.Int
    else if bytes_eq name (codes "Bool") then type.Bool
    else named (type_number 0 ds name)

abbrev pub is_var : Keyword → Bool
is_var keyword.Let = false
is_var keyword.Var = true

abbrev pub shapes_of : (Ty → Shape) → List Ty → Shapes
shapes_of shape_of [] = no_shapes
shapes_of shape_of (ty ∷ tys) = shape (shape_of ty) (shapes_of shape_of tys)

abbrev pub payloads_of : (Ty → Shape) → List (List Ty) → Payloads
payloads_of shape_of [] = no_payloads
payloads_of shape_of (tys ∷ cs) = payloads (shapes_of shape_of tys) (payloads_of shape_of cs)

-- ---- the declarations, with each name resolved

-- by what a written name stands for
abbrev pub resolved_field : (List ℕ → Ty) → Field → FieldInfo
resolved_field type_of f = record { name = f.name.text; ty = type_of f.written.text; changes = is_var f.keyword }

abbrev pub resolved_case : (List ℕ → Ty) → CaseItem → CaseInfo
resolved_case type_of c = record { name = c.name.text; payloads = map (λ name. type_of name.text) c.payloads }

abbrev pub resolved_by : (List ℕ → Ty) → Declared → TypeInfo
resolved_by type_of d = record {
  name = d.name.text;
  is_enum = d.is_enum;
  noncopyable = d.noncopyable;
  has_deinit = d.has_deinit;
  fields = map (resolved_field type_of) d.fields;
  cases = map (resolved_case type_of) d.cases;
}

abbrev pub resolved : List Declared → Declared → TypeInfo
resolved ds d = resolved_by (written_type ds) d

abbrev pub resolved_types : List Declared → List TypeInfo
resolved_types ds = map (resolved ds) ds

-- ---- what resolved declarations say of their types

abbrev pub field_types : List FieldInfo → List Ty
field_types fields = map (λ f. f.ty) fields

abbrev pub case_types : List CaseInfo → List (List Ty)
case_types cs = map (λ c. c.payloads) cs

abbrev pub all_case_types : List CaseInfo → List Ty
all_case_types [] = []
all_case_types (c ∷ cs) = c.payloads ++ all_case_types cs

-- the types that a type contains at once
abbrev pub contained : TypeInfo → List Ty
contained t = if t.is_enum then all_case_types t.cases else field_types t.fields

abbrev pub head_of : ℕ → TypeInfo → TypeHead
head_of k t = record { number = k; noncopyable = t.noncopyable; has_deinit = t.has_deinit; changes = map (λ f. f.changes) t.fields }

-- a declared type, by the shapes of what it contains
abbrev pub declared_shape : (Ty → Shape) → ℕ → TypeInfo → Shape
declared_shape shape_of k t =
    if t.is_enum then enum (head_of k t) (payloads_of shape_of (case_types t.cases))
    else struct (head_of k t) (shapes_of shape_of (field_types t.fields))

abbrev pub shape_of_declared : (Ty → Shape) → ℕ → Option TypeInfo → Shape
shape_of_declared shape_of k None = no_value
shape_of_declared shape_of k (Some t) = declared_shape shape_of k t

-- A type unfolded so many levels deep. As deep as there are types, and one level more, reaches the last part of
-- each that does not contain itself, as T03 asks.
abbrev pub unfolded : List TypeInfo → ℕ → Ty → Shape
unfolded ts zero ty = no_value
unfolded ts (suc depth) type.Int = number
unfolded ts (suc depth) type.Bool = truth
unfolded ts (suc depth) type.Unit = no_value
unfolded ts (suc depth) (type.Fun k) = closure
unfolded ts (suc depth) (type.Named k) = shape_of_declared (unfolded ts depth) k (slice_get ts k)

-- the declaration of a type, of one that is declared
abbrev pub declaration : List TypeInfo → Ty → Option TypeInfo
declaration ts type.Int = None
declaration ts type.Bool = None
declaration ts type.Unit = None
declaration ts (type.Fun k) = None
declaration ts (type.Named k) = slice_get ts k

abbrev pub declared_fields : Option TypeInfo → List FieldInfo
declared_fields None = []
declared_fields (Some t) = t.fields

abbrev pub declared_cases : Option TypeInfo → List CaseInfo
declared_cases None = []
declared_cases (Some t) = t.cases

abbrev pub declares_enum : Option TypeInfo → Bool
declares_enum None = false
declares_enum (Some t) = t.is_enum

abbrev pub declared_name : Option TypeInfo → List ℕ
declared_name None = []
declared_name (Some t) = t.name

abbrev pub types_resolved : List TypeInfo → Types
types_resolved ts = record {
  shape = unfolded ts (suc (length ts));
  properties = λ ty. declared_fields (declaration ts ty);
  cases = λ ty. declared_cases (declaration ts ty);
  is_enum = λ ty. declares_enum (declaration ts ty);
  name = λ ty. declared_name (declaration ts ty);
  count = length ts;
}

unfoldable pub types_declared : List Declared → Types
types_declared ds = types_resolved (resolved_types ds)

unfoldable pub types_of : File → Types
types_of file = types_declared (declared_types file.declarations)

-- ---- types of the text, and what they contain

-- it is declared, or none of the declared types
abbrev pub IsType : ℕ → Ty → Type 0
IsType count type.Int = Unit {0}
IsType count type.Bool = Unit {0}
IsType count type.Unit = Unit {0}
IsType count (type.Fun k) = Unit {0}
IsType count (type.Named k) = k < count

-- what a stored property or a payload may be of: `Int`, `Bool` or a declared type
abbrev pub is_part : ℕ → Ty → Bool
is_part count type.Int = true
is_part count type.Bool = true
is_part count type.Unit = false
is_part count (type.Fun k) = false
is_part count (type.Named k) = nat_lt k count

-- each written type is one of these (T01)
abbrev pub PartsAreTypes : List TypeInfo → Type 0
PartsAreTypes ts = (k : ℕ) (t : TypeInfo) → slice_get ts k ≡ Some t → IsTrue (list_all (is_part (length ts)) (contained t))

-- one type contains another in so many steps from part to part
abbrev pub ContainsIn : List TypeInfo → ℕ → ℕ → ℕ → Type 0
ContainsIn ts zero j k = j ≡ k
ContainsIn ts (suc steps) j k = (t : TypeInfo) × (i : ℕ) × (slice_get ts j ≡ Some t) × Contains (contained t) (type.Named i) × ContainsIn ts steps i k

-- no type contains itself (T03)
abbrev pub NoneContainsItself : List TypeInfo → Type 0
NoneContainsItself ts = (steps k : ℕ) → ContainsIn ts (suc steps) k k → ⊥
