-- What the declarations of a text say to its bodies: its types, its functions and methods, and the numbers of their
-- bodies, which are numbered from 0 through the text, each before the closures in it.
use Rattle.std.specs.Prelude.{ℕ, suc, ◌+◌, ◌==◌, ◌&&◌, if◌then◌else◌, List, [], ◌∷◌, ◌++◌, length, map, Option, Some, None}
use Rattle.std.specs.Str.{bytes_eq}
use Rattle.own_tree.specs.declared.place.Ty.{Ty}
use Rattle.own_tree.specs.declared.tree.MethodMode.{MethodMode}
use Rattle.own_tree.specs.declared.tree.Parameter.{Parameter}
use Rattle.own_tree.specs.declared.tree.ResultType.{ResultType}
use Rattle.own_tree.specs.declared.typed.ParamInfo.{ParamInfo}
use Rattle.own_tree.specs.declared.typed.Signature.{Signature}
use Rattle.own_tree.specs.Source as tree
use Rattle.own_tree.specs.Source.{Member, Decl, File, Blk}
use Rattle.own_shapes.specs.Types.{Types, types_of, declared_types, written_type, type_number}
use Rattle.own_survey.specs.Limits.{body_places}
use Rattle.own_survey.specs.Parts.{block_parts}
use Rattle.own_judged.specs.Signatures.{param_of, given_result, signatures_in}

-- a body that is called by a name, with its number
pub record Callable : Type 0 where
  pub body : ℕ
  pub params : List ParamInfo
  pub result : Ty

pub record Method : Type 0 where
  pub mode : Option MethodMode
  pub callable : Callable

pub record Text : Type 0 where
  pub types : Types
  -- the type that a written name stands for
  pub written : List ℕ → Ty
  -- the number of a declared type
  pub declared : List ℕ → Option ℕ
  pub function : List ℕ → Option Callable
  -- a method of the type of that number
  pub method : ℕ → List ℕ → Option Method
  pub initializer : ℕ → Option Callable
  -- the function types, each by its number
  pub signatures : List Signature

-- ---- the declarations with bodies, in order of the text

-- a body, and the closures in it
abbrev pub bodies_of : Blk → ℕ
bodies_of b = suc (length (body_places (block_parts b)))

pub data Entry : Type 0 where
  for_function : List ℕ → Callable → Entry
  for_method : ℕ → List ℕ → Method → Entry
  for_initializer : ℕ → Callable → Entry

module _ (type_of : List ℕ → Ty) (signatures : List Signature) where
  abbrev pub callable : ℕ → List Parameter → Option ResultType → Callable
  callable k ps r = record {
    body = k;
    params = map (param_of type_of signatures) ps;
    result = given_result type_of r;
  }

  -- the members of type t, the first of whose bodies has number k
  abbrev pub member_entries : ℕ → ℕ → List Member → List Entry
  member_entries t k [] = []
  member_entries t k (tree.field f ∷ ms) = member_entries t k ms
  member_entries t k (tree.initializer s ps b ∷ ms) =
      for_initializer t (callable k ps None) ∷ member_entries t (k + bodies_of b) ms
  member_entries t k (tree.deinitializer s b ∷ ms) = member_entries t (k + bodies_of b) ms
  member_entries t k (tree.method s m f ∷ ms) =
      for_method t f.name.text (record { mode = m; callable = callable k f.parameters f.result })
      ∷ member_entries t (k + bodies_of f.body) ms
  member_entries t k (tree.cases s cs ∷ ms) = member_entries t k ms

  abbrev pub member_bodies : List Member → ℕ
  member_bodies [] = 0
  member_bodies (tree.field f ∷ ms) = member_bodies ms
  member_bodies (tree.initializer s ps b ∷ ms) = bodies_of b + member_bodies ms
  member_bodies (tree.deinitializer s b ∷ ms) = bodies_of b + member_bodies ms
  member_bodies (tree.method s m f ∷ ms) = bodies_of f.body + member_bodies ms
  member_bodies (tree.cases s cs ∷ ms) = member_bodies ms

  -- the declarations, the first of whose types has number t and the first of whose bodies number k
  abbrev pub entries : ℕ → ℕ → List Decl → List Entry
  entries t k [] = []
  entries t k (tree.struct_of s name noncopyable ms ∷ ds) =
      member_entries t k ms ++ entries (suc t) (k + member_bodies ms) ds
  entries t k (tree.enum_of s name noncopyable ms ∷ ds) =
      member_entries t k ms ++ entries (suc t) (k + member_bodies ms) ds
  entries t k (tree.function f ∷ ds) =
      for_function f.name.text (callable k f.parameters f.result) ∷ entries t (k + bodies_of f.body) ds

-- ---- look-ups

abbrev pub function_in : List Entry → List ℕ → Option Callable
function_in [] name = None
function_in (for_function n c ∷ es) name = if bytes_eq n name then Some c else function_in es name
function_in (for_method t n m ∷ es) name = function_in es name
function_in (for_initializer t c ∷ es) name = function_in es name

abbrev pub method_in : List Entry → ℕ → List ℕ → Option Method
method_in [] ty name = None
method_in (for_function n c ∷ es) ty name = method_in es ty name
method_in (for_method t n m ∷ es) ty name =
    if (t == ty) && bytes_eq n name then Some m else method_in es ty name
method_in (for_initializer t c ∷ es) ty name = method_in es ty name

abbrev pub initializer_in : List Entry → ℕ → Option Callable
initializer_in [] ty = None
initializer_in (for_function n c ∷ es) ty = initializer_in es ty
initializer_in (for_method t n m ∷ es) ty = initializer_in es ty
initializer_in (for_initializer t c ∷ es) ty = if t == ty then Some c else initializer_in es ty

-- ---- the whole text

abbrev pub text_with : Types → (List ℕ → Ty) → (List ℕ → Option ℕ) → List Signature → List Entry → Text
text_with types type_of declared ss es = record {
  types = types;
  written = type_of;
  declared = declared;
  function = function_in es;
  method = method_in es;
  initializer = initializer_in es;
  signatures = ss;
}

abbrev pub text_of : File → Text
text_of file =
    let ds = declared_types file.declarations in
    let type_of = written_type ds in
    let ss = signatures_in type_of [] file.declarations in
    text_with (types_of file) type_of (type_number 0 ds) ss (entries type_of ss 0 0 file.declarations)
