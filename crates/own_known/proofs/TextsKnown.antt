-- What the look-ups of a text find, where its types are whole.
use Rattle.std.specs.Prelude.{◌≡◌, ℕ, zero, suc, ◌+◌, ◌<◌, nat_lt, Bool, true, false, IsTrue, Contains, if◌then◌else◌, List, [], ◌∷◌, ◌++◌, length, Option, Some, None, slice_get, codes, ◌==◌, ◌&&◌}
use Rattle.std.specs.Str.{bytes_eq}
use Rattle.std.proofs.Common.{refl, sym, ap, ◌∙◌, subst, arith}
use Rattle.std.proofs.lemmas.Grind.{common_steps}
use Rattle.std.proofs.lemmas.List.{length-map}
use Rattle.std.proofs.lemmas.Option.{slice_get_within}
use Rattle.own_tree.specs.declared.place.Ty.{Ty}
use Rattle.own_tree.specs.declared.place.Ty.TheVariants as type
use Rattle.own_tree.specs.declared.tree.Parameter.{Parameter}
use Rattle.own_tree.specs.declared.tree.ParameterType.{ParameterType}
use Rattle.own_tree.specs.declared.tree.ParameterType.TheVariants as written
use Rattle.own_tree.specs.declared.tree.ResultType.{ResultType}
use Rattle.own_tree.specs.declared.typed.ParamInfo.{ParamInfo}
use Rattle.own_tree.specs.declared.typed.Signature.{Signature}
use Rattle.own_tree.specs.Source as tree
use Rattle.own_tree.specs.Source.{Member, Decl, File}
use Rattle.own_tree.specs.TypedSource.{Program}
use Rattle.own_shapes.specs.declared.info.FieldInfo.{FieldInfo}
use Rattle.own_shapes.specs.declared.info.CaseInfo.{CaseInfo}
use Rattle.own_shapes.specs.declared.info.TypeInfo.{TypeInfo}
use Rattle.own_shapes.specs.Types.{Types, Shape, shape_at, property_shape, shapes_of, field_types, is_part, types_of, types_declared, types_resolved, resolved, resolved_types, declared_types, Declared, type_number, named, written_type, declared_fields, declared_cases}
use Rattle.own_shapes.proofs.Lists.{get_contains}
use Rattle.own_table.specs.Table.{AreWhole}
use Rattle.own_judging.specs.Made.{Made}
use Rattle.own_judged.specs.Names.{property_from, case_from, property, case_of_type}
use Rattle.own_judged.specs.Signatures.{signature_of, param_type, given_result, signatures_in}
use Rattle.own_judged.specs.Text.{Text, Callable, Method, Entry, for_function, for_method, for_initializer, member_entries, member_bodies, bodies_of, entries, function_in, method_in, text_of}
use Rattle.own_judged.specs.Typing.{program_of}
use Rattle.own_known.specs.Known.{AreTypes}
use Rattle.own_known.specs.Surroundings.{IsKnown, FieldKnown, ParamsTyped, SignatureKnown, TextKnown, ParamsHere, MembersHere, DeclarationsHere}
use Rattle.own_known.proofs.SignaturesKnown.{number_is_below, AreThere, IsThere, MembersThere, DeclarationsThere, all_there, ParamsGood, result_good, found_good}

-- ---- look-ups

same : {A : Type 0} (a b : A) → Some a ≡ Some b → a ≡ b
same a b e = cc

abbrev At : {A : Type 0} → ℕ → List A → ℕ × A → Type 0
At k xs r = (i : ℕ) × (r.0 ≡ k + i) × (slice_get xs i ≡ Some r.1)

-- the first element, or one behind it
found_by :
    {A : Type 0} (b : Bool) (k : ℕ) (x : A) (xs : List A) (o : Option (ℕ × A)) (r : ℕ × A)
    → (o ≡ Some r → At (suc k) xs r) → (if b then Some (k, x) else o) ≡ Some r → At k (x ∷ xs) r
found_by true k x xs o r later e =
    let is = same (k, x) r e in (zero, ap (λ p. p.0) (sym is) ∙ omega arith, ap (λ p. Some p.1) is)
found_by false k x xs o r later e = let h = later e in (suc h.0, h.1 ∙ omega arith, h.2)

at_first : {A : Type 0} (xs : List A) (r : ℕ × A) → At 0 xs r → slice_get xs r.0 ≡ Some r.1
at_first xs r h = ap (slice_get xs) (h.1 ∙ omega arith) ∙ h.2

property_in :
    (k : ℕ) (fs : List FieldInfo) (name : List ℕ) (r : ℕ × FieldInfo) → property_from k fs name ≡ Some r → At k fs r
property_in k [] name r e = absurd (cc)
property_in k (f ∷ fs) name r e =
    found_by (bytes_eq f.name name) k f fs (property_from (suc k) fs name) r (property_in (suc k) fs name r) e

case_in : (k : ℕ) (cs : List CaseInfo) (name : List ℕ) (r : ℕ × CaseInfo) → case_from k cs name ≡ Some r → At k cs r
case_in k [] name r e = absurd (cc)
case_in k (c ∷ cs) name r e =
    found_by (bytes_eq c.name name) k c cs (case_from (suc k) cs name) r (case_in (suc k) cs name r) e

number_by :
    (b : Bool) (k n : ℕ) (o : Option ℕ) (t : ℕ) → (o ≡ Some t → t < suc k + n) → (if b then Some k else o) ≡ Some t
    → t < k + suc n
number_by true k n o t later e = subst (λ t. t < k + suc n) (same k t e) (omega arith)
number_by false k n o t later e = omega (arith, later e)

number_in : (k : ℕ) (ds : List Declared) (name : List ℕ) (t : ℕ) → type_number k ds name ≡ Some t → t < k + length ds
number_in k [] name t e = absurd (cc)
number_in k (d ∷ ds) name t e =
    number_by (bytes_eq d.name.text name) k (length ds) (type_number (suc k) ds name) t (number_in (suc k) ds name t) e

-- ---- shapes

shape_of_property :
    (shape : Ty → Shape) (fs : List FieldInfo) (k : ℕ) (f : FieldInfo) → slice_get fs k ≡ Some f
    → shape_at (shapes_of shape (field_types fs)) k ≡ shape f.ty
shape_of_property shape [] k f e = absurd (cc)
shape_of_property shape (g ∷ gs) zero f e = ap (λ h. shape h.ty) (same g f e)
shape_of_property shape (g ∷ gs) (suc k) f e = shape_of_property shape gs k f e

-- a type with a property or a case is declared
abbrev Declares : Types → Ty → Type 0
Declares types ty = (t : ℕ) × (ty ≡ type.Named t) × (t < types.count)

abbrev OnlyDeclared : Types → Type 0
OnlyDeclared types =
    (ty : Ty)
    → ((k : ℕ) (f : FieldInfo) → slice_get (types.properties ty) k ≡ Some f → Declares types ty)
    × ((k : ℕ) (c : CaseInfo) → slice_get (types.cases ty) k ≡ Some c → Declares types ty)

declared_there : (ts : List TypeInfo) (t : ℕ) (o : Option TypeInfo) → slice_get ts t ≡ o
    → ((k : ℕ) (f : FieldInfo) → slice_get (declared_fields o) k ≡ Some f → t < length ts)
    × ((k : ℕ) (c : CaseInfo) → slice_get (declared_cases o) k ≡ Some c → t < length ts)
declared_there ts t None at_o = ((λ k f e. absurd (cc)), λ k c e. absurd (cc))
declared_there ts t (Some info) at_o =
    ((λ k f e. slice_get_within ts t info at_o), λ k c e. slice_get_within ts t info at_o)

only_declared : (ts : List TypeInfo) → OnlyDeclared (types_resolved ts)
only_declared ts type.Int = ((λ k f e. absurd (cc)), λ k c e. absurd (cc))
only_declared ts type.Bool = ((λ k f e. absurd (cc)), λ k c e. absurd (cc))
only_declared ts type.Unit = ((λ k f e. absurd (cc)), λ k c e. absurd (cc))
only_declared ts (type.Fun g) = ((λ k f e. absurd (cc)), λ k c e. absurd (cc))
only_declared ts (type.Named t) =
    let there = declared_there ts t (slice_get ts t) refl in
    ((λ k f e. (t, refl, there.0 k f e)), λ k c e. (t, refl, there.1 k c e))

module _ (file : File) where
  abbrev types : Types
  types = types_of file

  abbrev declared : List Declared
  declared = declared_types file.declarations

  types_only_declared : OnlyDeclared types
  unfolding types_of types_declared
  types_only_declared = only_declared (resolved_types declared)

  count_is : types.count ≡ length declared
  unfolding types_of types_declared
  count_is = length-map declared (resolved declared)

  number_known : (name : List ℕ) (t : ℕ) → type_number 0 declared name ≡ Some t → t < types.count
  number_known name t e = subst (λ n. t < n) (sym count_is) (omega (arith, number_in 0 declared name t e))

  module _ (whole : AreWhole types) (made : Made) where
    abbrev text : Text
    text = text_of file

    abbrev program : Program
    program = program_of text file made

    abbrev Ok : Ty → Type 0
    Ok ty = IsKnown text program ty

    -- ---- types

    named_ok : (o : Option ℕ) → ((t : ℕ) → o ≡ Some t → t < types.count) → Ok (named o)
    named_ok (Some t) below = below t refl
    named_ok None below = tt

    written_by : (b c : Bool) (ty : Ty) → Ok ty → Ok (if b then type.Int else if c then type.Bool else ty)
    written_by true c ty ok = tt
    written_by false true ty ok = tt
    written_by false false ty ok = ok

    written_ok : (name : List ℕ) → Ok (written_type declared name)
    written_ok name =
        written_by (bytes_eq name (codes "Int")) (bytes_eq name (codes "Bool")) (named (type_number 0 declared name))
        (named_ok (type_number 0 declared name) (number_known name))

    below_by_test : (k n : ℕ) → nat_lt k n ≡ true → k < n
    below_by_test k n e = grind (arith, common_steps)

    part_ok : (ty : Ty) → IsTrue (is_part types.count ty) → Ok ty
    part_ok type.Int h = tt
    part_ok type.Bool h = tt
    part_ok type.Unit h = tt
    part_ok (type.Fun k) h = absurd (cc)
    part_ok (type.Named k) h = below_by_test k types.count h

    -- ---- properties

    of_struct : (t : ℕ) → t < types.count → types.is_enum (type.Named t) ≡ false → (k : ℕ) (f : FieldInfo)
        → slice_get (types.properties (type.Named t)) k ≡ Some f → FieldKnown text program (type.Named t) k f
    of_struct t below struct k f e =
        let shape = whole.struct_shape t below struct in (
          e,
          ap (λ s. property_shape s k) shape.1 ∙ shape_of_property types.shape (types.properties (type.Named t)) k f e,
          part_ok f.ty (whole.field_part t below struct f (get_contains (types.properties (type.Named t)) k f e)),
        )

    of_declared : (t : ℕ) (b : Bool) → t < types.count → types.is_enum (type.Named t) ≡ b → (k : ℕ) (f : FieldInfo)
        → slice_get (types.properties (type.Named t)) k ≡ Some f → FieldKnown text program (type.Named t) k f
    of_declared t false below at_b k f e = of_struct t below at_b k f e
    of_declared t true below at_b k f e =
        absurd (none (subst (λ fs. slice_get fs k ≡ Some f) (whole.enum_properties t below at_b) e))
      where
        none : slice_get [] k ≡ Some f → ⊥
        none e = cc

    of_type :
        (ty : Ty) (k : ℕ) (f : FieldInfo) → Declares types ty → slice_get (types.properties ty) k ≡ Some f
        → FieldKnown text program ty k f
    of_type ty k f d e =
        subst (λ ty. FieldKnown text program ty k f) (sym d.1)
        (of_declared d.0 (types.is_enum (type.Named d.0)) d.2 refl k f
        (subst (λ ty. slice_get (types.properties ty) k ≡ Some f) d.1 e))

    property_ok :
        (ty : Ty) (name : List ℕ) (r : ℕ × FieldInfo) → property text ty name ≡ Some r
        → FieldKnown text program ty r.0 r.1
    property_ok ty name r e =
        let there = at_first (types.properties ty) r (property_in 0 (types.properties ty) name r e) in
        of_type ty r.0 r.1 ((types_only_declared ty).0 r.0 r.1 there) there

    -- ---- cases

    payloads_ok :
        (tys : List Ty) → ((ty : Ty) → Contains tys ty → IsTrue (is_part types.count ty)) → AreTypes text program tys
    payloads_ok [] parts = tt
    payloads_ok (ty ∷ tys) parts = (
      part_ok ty (parts ty (get_contains (ty ∷ tys) 0 ty refl)),
      payloads_ok tys (λ other c. parts other (behind ty tys other c)),
    )
      where
        behind : (ty : Ty) (tys : List Ty) (other : Ty) → Contains tys other → Contains (ty ∷ tys) other
        behind ty tys other c = (suc c.0, omega (arith, c.1), c.2)

    cases_of_declared : (t : ℕ) (b : Bool) → t < types.count → types.is_enum (type.Named t) ≡ b → (k : ℕ) (c : CaseInfo)
        → slice_get (types.cases (type.Named t)) k ≡ Some c → AreTypes text program c.payloads
    cases_of_declared t true below at_b k c e =
        payloads_ok c.payloads (whole.payload_part t below at_b c (get_contains (types.cases (type.Named t)) k c e))
    cases_of_declared t false below at_b k c e =
        absurd (none (subst (λ cs. slice_get cs k ≡ Some c) (whole.struct_cases t below at_b) e))
      where
        none : slice_get [] k ≡ Some c → ⊥
        none e = cc

    case_ok :
        (ty : Ty) (name : List ℕ) (r : ℕ × CaseInfo) → case_of_type text ty name ≡ Some r
        → Ok ty × AreTypes text program r.1.payloads × (slice_get (types.cases ty) r.0 ≡ Some r.1)
    case_ok ty name r e =
        let there = at_first (types.cases ty) r (case_in 0 (types.cases ty) name r e) in
        let d = (types_only_declared ty).1 r.0 r.1 there in (
          subst Ok (sym d.1) d.2,
          cases_of_declared d.0 (types.is_enum (type.Named d.0)) d.2 refl r.0 r.1
              (subst (λ ty. slice_get (types.cases ty) r.0 ≡ Some r.1) d.1 there),
          there,
        )

    -- ---- functions and methods

    abbrev signatures : List Signature
    signatures = signatures_in (written_type declared) [] file.declarations

    result_ok : (r : Option ResultType) → Ok (given_result (written_type declared) r)
    result_ok None = tt
    result_ok (Some r) = result_good (written_type declared) Ok written_ok tt r

    abbrev EntryOk : Entry → Type 0
    EntryOk (for_function n c) = Ok c.result
    EntryOk (for_method t n m) = Ok m.callable.result
    EntryOk (for_initializer t c) = Ok c.result

    abbrev EntriesOk : List Entry → Type 0
    EntriesOk [] = Unit {0}
    EntriesOk (e ∷ es) = EntryOk e × EntriesOk es

    joined_ok : (es fs : List Entry) → EntriesOk es → EntriesOk fs → EntriesOk (es ++ fs)
    joined_ok [] fs a b = b
    joined_ok (e ∷ es) fs a b = (a.0, joined_ok es fs a.1 b)

    members_ok :
        (ss : List Signature) (t k : ℕ) (ms : List Member)
        → EntriesOk (member_entries (written_type declared) ss t k ms)
    members_ok ss t k [] = tt
    members_ok ss t k (tree.field f ∷ ms) = members_ok ss t k ms
    members_ok ss t k (tree.initializer s ps b ∷ ms) = (tt, members_ok ss t (k + bodies_of b) ms)
    members_ok ss t k (tree.deinitializer s b ∷ ms) = members_ok ss t (k + bodies_of b) ms
    members_ok ss t k (tree.method s m f ∷ ms) = (result_ok f.result, members_ok ss t (k + bodies_of f.body) ms)
    members_ok ss t k (tree.cases s cs ∷ ms) = members_ok ss t k ms

    entries_ok :
        (ss : List Signature) (t k : ℕ) (ds : List Decl) → EntriesOk (entries (written_type declared) ss t k ds)
    entries_ok ss t k [] = tt
    entries_ok ss t k (tree.struct_of s n noncopyable ms ∷ ds) =
        joined_ok (member_entries (written_type declared) ss t k ms)
        (entries (written_type declared) ss (suc t) (k + member_bodies (written_type declared) ss ms) ds)
        (members_ok ss t k ms) (entries_ok ss (suc t) (k + member_bodies (written_type declared) ss ms) ds)
    entries_ok ss t k (tree.enum_of s n noncopyable ms ∷ ds) =
        joined_ok (member_entries (written_type declared) ss t k ms)
        (entries (written_type declared) ss (suc t) (k + member_bodies (written_type declared) ss ms) ds)
        (members_ok ss t k ms) (entries_ok ss (suc t) (k + member_bodies (written_type declared) ss ms) ds)
    entries_ok ss t k (tree.function f ∷ ds) = (result_ok f.result, entries_ok ss t (k + bodies_of f.body) ds)

    chosen_ok :
        {A : Type 0} (Q : A → Type 0) (b : Bool) (x : A) (o : Option A) (y : A) → Q x → ((z : A) → o ≡ Some z → Q z)
        → (if b then Some x else o) ≡ Some y → Q y
    chosen_ok Q true x o y q rest e = subst Q (same x y e) q
    chosen_ok Q false x o y q rest e = rest y e

    function_ok :
        (es : List Entry) (name : List ℕ) (c : Callable) → EntriesOk es → function_in es name ≡ Some c → Ok c.result
    function_ok [] name c all e = absurd (cc)
    function_ok (for_function n d ∷ es) name c all e =
        chosen_ok (λ c. Ok c.result) (bytes_eq n name) d (function_in es name) c all.0
        (λ z h. function_ok es name z all.1 h) e
    function_ok (for_method t n m ∷ es) name c all e = function_ok es name c all.1 e
    function_ok (for_initializer t d ∷ es) name c all e = function_ok es name c all.1 e

    method_ok :
        (es : List Entry) (ty : ℕ) (name : List ℕ) (m : Method) → EntriesOk es → method_in es ty name ≡ Some m
        → Ok m.callable.result
    method_ok [] ty name m all e = absurd (cc)
    method_ok (for_function n d ∷ es) ty name m all e = method_ok es ty name m all.1 e
    method_ok (for_method t n o ∷ es) ty name m all e =
        chosen_ok (λ m. Ok m.callable.result) ((t == ty) && bytes_eq n name) o (method_in es ty name) m all.0
        (λ z h. method_ok es ty name z all.1 h) e
    method_ok (for_initializer t d ∷ es) ty name m all e = method_ok es ty name m all.1 e

    -- ---- function types

    typed_by :
        (ps : List ParamInfo) → ParamsGood (written_type declared) Ok written_ok tt ps → ParamsTyped text program ps
    typed_by [] good = tt
    typed_by (p ∷ ps) good = (good.0, typed_by ps good.1)

    signature_ok : (f : ℕ) (g : Signature) → slice_get signatures f ≡ Some g → SignatureKnown text program f g
    signature_ok f g e =
        let good = found_good (written_type declared) Ok written_ok tt file.declarations f g e in
        (e, slice_get_within signatures f g e, typed_by g.params good.0, good.1)

    pub texts_known : TextKnown text program
    texts_known = record {
      written = written_ok;
      declared = number_known;
      property = property_ok;
      case_of = case_ok;
      function =
          λ name c e. function_ok (entries (written_type declared) signatures 0 0 file.declarations) name c
          (entries_ok signatures 0 0 file.declarations) e;
      method =
          λ t name m e. method_ok (entries (written_type declared) signatures 0 0 file.declarations) t name m
          (entries_ok signatures 0 0 file.declarations) e;
      signature = signature_ok;
    }

    -- ---- declarations

    param_ok :
        (p : ParameterType) → IsThere (written_type declared) signatures p
        → Ok (param_type (written_type declared) signatures p).1
    param_ok (written.Named s m n) there = written_ok n.text
    param_ok (written.Function s ps r) there =
        number_is_below signatures (signature_of (written_type declared) ps r) there

    params_ok : (ps : List Parameter) → AreThere (written_type declared) signatures ps → ParamsHere text program ps
    params_ok [] there = tt
    params_ok (p ∷ ps) there = (param_ok p.written there.0, params_ok ps there.1)

    members_here : (ms : List Member) → MembersThere (written_type declared) signatures ms → MembersHere text program ms
    members_here [] there = tt
    members_here (tree.field f ∷ ms) there = members_here ms there
    members_here (tree.initializer s ps b ∷ ms) there = (params_ok ps there.0, members_here ms there.1)
    members_here (tree.deinitializer s b ∷ ms) there = members_here ms there
    members_here (tree.method s m f ∷ ms) there = (params_ok f.parameters there.0, members_here ms there.1)
    members_here (tree.cases s cs ∷ ms) there = members_here ms there

    declarations_here :
        (t : ℕ) (ds : List Decl) → t + length (declared_types ds) ≡ types.count
        → DeclarationsThere (written_type declared) signatures ds → DeclarationsHere text program t ds
    declarations_here t [] e there = tt
    declarations_here t (tree.struct_of s n noncopyable ms ∷ ds) e there =
        (omega (arith, e), members_here ms there.0, declarations_here (suc t) ds (omega (arith, e)) there.1)
    declarations_here t (tree.enum_of s n noncopyable ms ∷ ds) e there =
        (omega (arith, e), members_here ms there.0, declarations_here (suc t) ds (omega (arith, e)) there.1)
    declarations_here t (tree.function f ∷ ds) e there =
        (params_ok f.parameters there.0, declarations_here t ds e there.1)

    pub all_here : DeclarationsHere text program 0 file.declarations
    all_here =
        declarations_here 0 file.declarations (omega (arith, count_is))
        (all_there (written_type declared) file.declarations)
