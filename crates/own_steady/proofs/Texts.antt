-- What each text has: its built-in types, and parameters with the modes that may be written.
use Rattle.std.proofs.Common.{◌≡◌, ℕ, zero, suc, ◌+◌, Bool, true, false, List, [], ◌∷◌, ◌++◌, map, Option, Some, None, refl, sym, ap, ◌∙◌, subst}
use Rattle.std.specs.Prelude.{slice_get, ◌==◌, ◌&&◌, if◌then◌else◌}
use Rattle.std.specs.Str.{bytes_eq}
use Rattle.own_tree.specs.declared.place.Ty.{Ty}
use Rattle.own_tree.specs.declared.place.Ty.TheVariants as type
use Rattle.own_tree.specs.declared.tree.PassingMode.{PassingMode}
use Rattle.own_tree.specs.declared.tree.PassingMode.TheVariants as passing_mode
use Rattle.own_tree.specs.declared.tree.Parameter.{Parameter}
use Rattle.own_tree.specs.declared.tree.ParameterType.{ParameterType}
use Rattle.own_tree.specs.declared.tree.ParameterType.TheVariants as written
use Rattle.own_tree.specs.declared.tree.FunctionParameter.{FunctionParameter}
use Rattle.own_tree.specs.declared.typed.Signature.{Signature}
use Rattle.own_tree.specs.Source as tree
use Rattle.own_tree.specs.Source.{File, Member, Decl}
use Rattle.own_tree.specs.TypedSource.{Program}
use Rattle.own_shapes.specs.Types.{types_of, types_declared, written_type, declared_types}
use Rattle.own_judged.specs.Signatures.{mode_of, inner_param, signature_of, param_of, has_signature, signatures_with, signatures_after, member_signatures, signatures_in}
use Rattle.own_judged.specs.Text.{Callable, Method, Entry, for_function, for_method, for_initializer, function_in, method_in, initializer_in, member_entries, entries, member_bodies, bodies_of, text_of}
use Rattle.own_judged.specs.Typing.{Typing}
use Rattle.own_steady.specs.Programs.{AreBasic, IsBuiltIn, ParamsWritten}
use Rattle.own_steady.specs.Steady.{IsWritten, AreWritten}
use Rattle.own_steady.proofs.Steps.{none_some, some_same}

pub types_are_basic : (file : File) → AreBasic (types_of file)
unfolding types_of types_declared
types_are_basic file = record { ints = refl; truths = refl; units = refl; functions = λ k. refl; no_properties = λ ty h. nothing ty h }
  where
    nothing : (ty : Ty) → IsBuiltIn ty → (types_of file).properties ty ≡ []
    nothing type.Int h = refl
    nothing type.Bool h = refl
    nothing type.Unit h = refl
    nothing (type.Fun k) h = refl
    nothing (type.Named k) h = absurd h

-- ---- modes

mode_written : (m : Option PassingMode) → IsWritten (mode_of m)
mode_written None = tt
mode_written (Some passing_mode.Borrowing) = tt
mode_written (Some passing_mode.Consuming) = tt
mode_written (Some passing_mode.Inout) = tt

module _ (type_of : List ℕ → Ty) where
  inner_written : (ps : List FunctionParameter) → AreWritten (map (inner_param type_of) ps)
  inner_written [] = tt
  inner_written (p ∷ ps) = (mode_written p.mode, inner_written ps)

  abbrev AllWritten : List Signature → Type 0
  AllWritten [] = Unit {0}
  AllWritten (s ∷ ss) = AreWritten s.params × AllWritten ss

  all_append : (ss ts : List Signature) → AllWritten ss → AllWritten ts → AllWritten (ss ++ ts)
  all_append [] ts h g = g
  all_append (s ∷ ss) ts h g = (h.0, all_append ss ts h.1 g)

  added_written : (b : Bool) (ss : List Signature) (s : Signature) → AllWritten ss → AreWritten s.params → AllWritten (if b then ss else ss ++ s ∷ [])
  added_written true ss s h g = h
  added_written false ss s h g = all_append ss (s ∷ []) h (g, tt)

  with_written : (ss : List Signature) (p : ParameterType) → AllWritten ss → AllWritten (signatures_with type_of ss p)
  with_written ss (written.Named s m n) h = h
  with_written ss (written.Function s ps r) h = added_written (has_signature ss (signature_of type_of ps r)) ss (signature_of type_of ps r) h (inner_written ps)

  after_written : (ss : List Signature) (ps : List Parameter) → AllWritten ss → AllWritten (signatures_after type_of ss ps)
  after_written ss [] h = h
  after_written ss (p ∷ ps) h = after_written (signatures_with type_of ss p.written) ps (with_written ss p.written h)

  members_written : (ss : List Signature) (ms : List Member) → AllWritten ss → AllWritten (member_signatures type_of ss ms)
  members_written ss [] h = h
  members_written ss (tree.field f ∷ ms) h = members_written ss ms h
  members_written ss (tree.initializer s ps b ∷ ms) h = members_written (signatures_after type_of ss ps) ms (after_written ss ps h)
  members_written ss (tree.deinitializer s b ∷ ms) h = members_written ss ms h
  members_written ss (tree.method s m f ∷ ms) h = members_written (signatures_after type_of ss f.parameters) ms (after_written ss f.parameters h)
  members_written ss (tree.cases s cs ∷ ms) h = members_written ss ms h

  in_written : (ss : List Signature) (ds : List Decl) → AllWritten ss → AllWritten (signatures_in type_of ss ds)
  in_written ss [] h = h
  in_written ss (tree.struct_of s n noncopyable ms ∷ ds) h = in_written (member_signatures type_of ss ms) ds (members_written ss ms h)
  in_written ss (tree.enum_of s n noncopyable ms ∷ ds) h = in_written (member_signatures type_of ss ms) ds (members_written ss ms h)
  in_written ss (tree.function f ∷ ds) h = in_written (signatures_after type_of ss f.parameters) ds (after_written ss f.parameters h)

  one_written : (ss : List Signature) (k : ℕ) (s : Signature) → AllWritten ss → slice_get ss k ≡ Some s → AreWritten s.params
  one_written [] k s h e = none_some s e
  one_written (t ∷ ts) zero s h e = subst (λ z. AreWritten z.params) (some_same t s e) h.0
  one_written (t ∷ ts) (suc k) s h e = one_written ts k s h.1 e

  module _ (signatures : List Signature) where
    written_of : (p : Parameter) (w : ParameterType) → p.written ≡ w → IsWritten (param_of type_of signatures p).mode
    written_of p (written.Named s m n) e = subst (λ z. IsWritten (param_of type_of signatures (record p { written = z })).mode) (sym e) (mode_written m)
    written_of p (written.Function s ps r) e = subst (λ z. IsWritten (param_of type_of signatures (record p { written = z })).mode) (sym e) tt

    params_written : (ps : List Parameter) → AreWritten (map (param_of type_of signatures) ps)
    params_written [] = tt
    params_written (p ∷ ps) = (written_of p p.written refl, params_written ps)

    abbrev EntryWritten : Entry → Type 0
    EntryWritten (for_function n c) = AreWritten c.params
    EntryWritten (for_method t n m) = AreWritten m.callable.params
    EntryWritten (for_initializer t c) = AreWritten c.params

    abbrev EntriesWritten : List Entry → Type 0
    EntriesWritten [] = Unit {0}
    EntriesWritten (e ∷ es) = EntryWritten e × EntriesWritten es

    joined : (es fs : List Entry) → EntriesWritten es → EntriesWritten fs → EntriesWritten (es ++ fs)
    joined [] fs h g = g
    joined (e ∷ es) fs h g = (h.0, joined es fs h.1 g)

    member_entries_written : (t k : ℕ) (ms : List Member) → EntriesWritten (member_entries type_of signatures t k ms)
    member_entries_written t k [] = tt
    member_entries_written t k (tree.field f ∷ ms) = member_entries_written t k ms
    member_entries_written t k (tree.initializer s ps b ∷ ms) = (params_written ps, member_entries_written t (k + bodies_of b) ms)
    member_entries_written t k (tree.deinitializer s b ∷ ms) = member_entries_written t (k + bodies_of b) ms
    member_entries_written t k (tree.method s m f ∷ ms) = (params_written f.parameters, member_entries_written t (k + bodies_of f.body) ms)
    member_entries_written t k (tree.cases s cs ∷ ms) = member_entries_written t k ms

    entries_written : (t k : ℕ) (ds : List Decl) → EntriesWritten (entries type_of signatures t k ds)
    entries_written t k [] = tt
    entries_written t k (tree.struct_of s n noncopyable ms ∷ ds) =
        joined (member_entries type_of signatures t k ms) (entries type_of signatures (suc t) (k + member_bodies type_of signatures ms) ds)
        (member_entries_written t k ms) (entries_written (suc t) (k + member_bodies type_of signatures ms) ds)
    entries_written t k (tree.enum_of s n noncopyable ms ∷ ds) =
        joined (member_entries type_of signatures t k ms) (entries type_of signatures (suc t) (k + member_bodies type_of signatures ms) ds)
        (member_entries_written t k ms) (entries_written (suc t) (k + member_bodies type_of signatures ms) ds)
    entries_written t k (tree.function f ∷ ds) = (params_written f.parameters, entries_written t (k + bodies_of f.body) ds)

    chosen : {A : Type 0} (Q : A → Type 0) (b : Bool) (x : A) (o : Option A) (y : A) → Q x → ((z : A) → o ≡ Some z → Q z) → (if b then Some x else o) ≡ Some y → Q y
    chosen Q true x o y q rest e = subst Q (some_same x y e) q
    chosen Q false x o y q rest e = rest y e

    function_written : (es : List Entry) (name : List ℕ) (c : Callable) → EntriesWritten es → function_in es name ≡ Some c → AreWritten c.params
    function_written [] name c h e = none_some c e
    function_written (for_function n d ∷ es) name c h e =
        chosen (λ c. AreWritten c.params) (bytes_eq n name) d (function_in es name) c h.0 (λ z q. function_written es name z h.1 q) e
    function_written (for_method t n m ∷ es) name c h e = function_written es name c h.1 e
    function_written (for_initializer t d ∷ es) name c h e = function_written es name c h.1 e

    method_written : (es : List Entry) (ty : ℕ) (name : List ℕ) (m : Method) → EntriesWritten es → method_in es ty name ≡ Some m → AreWritten m.callable.params
    method_written [] ty name m h e = none_some m e
    method_written (for_function n d ∷ es) ty name m h e = method_written es ty name m h.1 e
    method_written (for_method t n o ∷ es) ty name m h e =
        chosen (λ m. AreWritten m.callable.params) ((t == ty) && bytes_eq n name) o (method_in es ty name) m h.0 (λ z q. method_written es ty name z h.1 q) e
    method_written (for_initializer t d ∷ es) ty name m h e = method_written es ty name m h.1 e

    initializer_written : (es : List Entry) (ty : ℕ) (c : Callable) → EntriesWritten es → initializer_in es ty ≡ Some c → AreWritten c.params
    initializer_written [] ty c h e = none_some c e
    initializer_written (for_function n d ∷ es) ty c h e = initializer_written es ty c h.1 e
    initializer_written (for_method t n o ∷ es) ty c h e = initializer_written es ty c h.1 e
    initializer_written (for_initializer t d ∷ es) ty c h e =
        chosen (λ c. AreWritten c.params) (t == ty) d (initializer_in es ty) c h.0 (λ z q. initializer_written es ty z h.1 q) e

pub params_are_written : (file : File) (program : Program) → Typing file program → ParamsWritten (text_of file) program
params_are_written file program typing =
    let type_of = written_type (declared_types file.declarations) in
    let ss = signatures_in type_of [] file.declarations in
    let es = entries type_of ss 0 0 file.declarations in
    let all = entries_written type_of ss 0 0 file.declarations in
    record {
      functions = λ name c e. function_written type_of ss es name c all e;
      methods = λ t name m e. method_written type_of ss es t name m all e;
      initializers = λ t c e. initializer_written type_of ss es t c all e;
      signatures = λ f g e. one_written type_of ss f g (in_written type_of [] file.declarations tt) (ap (λ p. slice_get p.signatures f) (sym typing.2) ∙ e);
    }
