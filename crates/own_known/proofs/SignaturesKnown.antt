-- The function types of a text: each is there for each parameter that is written with it.
use Rattle.std.specs.Prelude.{◌≡◌, ℕ, zero, suc, ◌+◌, ◌<◌, Bool, true, false, ◌&&◌, if◌then◌else◌, List, [], ◌∷◌, ◌++◌, length, map, Option, Some, None, slice_get}
use Rattle.std.specs.Str.{bytes_eq}
use Rattle.std.proofs.Common.{refl, subst, arith}
use Rattle.own_tree.specs.declared.place.Ty.{Ty}
use Rattle.own_tree.specs.declared.place.Ty.TheVariants as type
use Rattle.own_tree.specs.declared.tree.FunctionParameter.{FunctionParameter}
use Rattle.own_tree.specs.declared.tree.Parameter.{Parameter}
use Rattle.own_tree.specs.declared.tree.ParameterType.{ParameterType}
use Rattle.own_tree.specs.declared.tree.ParameterType.TheVariants as written
use Rattle.own_tree.specs.declared.tree.PassingMode.{PassingMode}
use Rattle.own_tree.specs.declared.tree.PassingMode.TheVariants as passing_mode
use Rattle.own_tree.specs.declared.tree.ResultType.{ResultType}
use Rattle.own_tree.specs.declared.tree.ResultType.TheVariants as result
use Rattle.own_tree.specs.declared.typed.ParamInfo.{ParamInfo}
use Rattle.own_tree.specs.declared.typed.Signature.{Signature}
use Rattle.own_tree.specs.Source as tree
use Rattle.own_tree.specs.Source.{Member, Decl}
use Rattle.own_survey.specs.Parts.{VOID}
use Rattle.own_calls.specs.Arguments.{same_type}
use Rattle.own_judging.proofs.Conditions.{same_by}
use Rattle.own_judged.specs.Signatures.{same_mode, same_params, same_signature, number_from, has_signature, with_signature, mode_of, inner_param, signature_of, result_of, signatures_with, signatures_after, member_signatures, signatures_in}

-- ---- a function type is itself

and_true : (b c : Bool) → b ≡ true → c ≡ true → (b && c) ≡ true
and_true b c p q = rw (p, q) refl

mode_itself : (m : Option PassingMode) → same_mode (mode_of m) (mode_of m) ≡ true
mode_itself None = refl
mode_itself (Some passing_mode.Borrowing) = refl
mode_itself (Some passing_mode.Consuming) = refl
mode_itself (Some passing_mode.Inout) = refl

module _ (type_of : List ℕ → Ty) where
  params_themselves :
      (ps : List FunctionParameter) → same_params (map (inner_param type_of) ps) (map (inner_param type_of) ps) ≡ true
  params_themselves [] = refl
  params_themselves (p ∷ ps) =
      let mode = same_mode (mode_of p.mode) (mode_of p.mode) in
      let ty = same_type (type_of p.name.text) (type_of p.name.text) in
      and_true (mode && ty) (same_params (map (inner_param type_of) ps) (map (inner_param type_of) ps))
      (and_true mode ty (mode_itself p.mode) (same_by (type_of p.name.text) (type_of p.name.text) refl))
      (params_themselves ps)

  signature_itself :
      (ps : List FunctionParameter) (r : ResultType)
      → same_signature (signature_of type_of ps r) (signature_of type_of ps r) ≡ true
  signature_itself ps r =
      and_true (same_params (map (inner_param type_of) ps) (map (inner_param type_of) ps))
      (same_type (result_of type_of r) (result_of type_of r))
      (params_themselves ps) (same_by (result_of type_of r) (result_of type_of r) refl)

-- ---- lists of them that grow

abbrev pub Extends : List Signature → List Signature → Type 0
Extends ss more = (w : Signature) → has_signature ss w ≡ true → has_signature more w ≡ true

chosen : (b c : Bool) → b ≡ true → (if b then true else c) ≡ true
chosen true c e = refl
chosen false c e = cc

either_way : (b c d : Bool) → (c ≡ true → d ≡ true) → (if b then true else c) ≡ true → (if b then true else d) ≡ true
either_way true c d h e = refl
either_way false c d h e = h e

pushed : (ss : List Signature) (v w : Signature) → has_signature ss w ≡ true → has_signature (ss ++ v ∷ []) w ≡ true
pushed [] v w e = absurd (cc)
pushed (s ∷ ss) v w e =
    either_way (same_signature s w) (has_signature ss w) (has_signature (ss ++ v ∷ []) w) (pushed ss v w) e

last : (ss : List Signature) (w : Signature) → same_signature w w ≡ true → has_signature (ss ++ w ∷ []) w ≡ true
last [] w e = chosen (same_signature w w) false e
last (s ∷ ss) w e = skipped (same_signature s w) (has_signature (ss ++ w ∷ []) w) (last ss w e)
  where
    skipped : (b c : Bool) → c ≡ true → (if b then true else c) ≡ true
    skipped true c e = refl
    skipped false c e = e

more_or_not :
    (b : Bool) (ss : List Signature) (v w : Signature) → has_signature ss w ≡ true
    → has_signature (if b then ss else ss ++ v ∷ []) w ≡ true
more_or_not true ss v w e = e
more_or_not false ss v w e = pushed ss v w e

there_or_last :
    (b : Bool) (ss : List Signature) (w : Signature) → has_signature ss w ≡ b → same_signature w w ≡ true
    → has_signature (if b then ss else ss ++ w ∷ []) w ≡ true
there_or_last true ss w at_b e = at_b
there_or_last false ss w at_b e = last ss w e

with_extends : (ss : List Signature) (v : Signature) → Extends ss (with_signature ss v)
with_extends ss v w e = more_or_not (has_signature ss v) ss v w e

with_has :
    (ss : List Signature) (w : Signature) → same_signature w w ≡ true → has_signature (with_signature ss w) w ≡ true
with_has ss w e = there_or_last (has_signature ss w) ss w refl e

-- the number of one that is there
number_by :
    (b : Bool) (k n rest : ℕ) (more : Bool) → (more ≡ true → rest < suc k + n) → (if b then true else more) ≡ true
    → (if b then k else rest) < k + suc n
number_by true k n rest more below e = omega arith
number_by false k n rest more below e = omega (arith, below e)

number_below :
    (k : ℕ) (ss : List Signature) (w : Signature) → has_signature ss w ≡ true → number_from k ss w < k + length ss
number_below k [] w e = absurd (cc)
number_below k (s ∷ ss) w e =
    number_by (same_signature s w) k (length ss) (number_from (suc k) ss w) (has_signature ss w)
    (number_below (suc k) ss w) e

pub number_is_below : (ss : List Signature) (w : Signature) → has_signature ss w ≡ true → number_from 0 ss w < length ss
number_is_below ss w e = omega (arith, number_below 0 ss w e)

-- ---- those of a text

module _ (type_of : List ℕ → Ty) where
  written_extends : (ss : List Signature) (p : ParameterType) → Extends ss (signatures_with type_of ss p)
  written_extends ss (written.Named s m n) w e = e
  written_extends ss (written.Function s ps r) w e = with_extends ss (signature_of type_of ps r) w e

  after_extends : (ss : List Signature) (ps : List Parameter) → Extends ss (signatures_after type_of ss ps)
  after_extends ss [] w e = e
  after_extends ss (p ∷ ps) w e =
      after_extends (signatures_with type_of ss p.written) ps w (written_extends ss p.written w e)

  members_extend : (ss : List Signature) (ms : List Member) → Extends ss (member_signatures type_of ss ms)
  members_extend ss [] w e = e
  members_extend ss (tree.field f ∷ ms) w e = members_extend ss ms w e
  members_extend ss (tree.initializer s ps b ∷ ms) w e =
      members_extend (signatures_after type_of ss ps) ms w (after_extends ss ps w e)
  members_extend ss (tree.deinitializer s b ∷ ms) w e = members_extend ss ms w e
  members_extend ss (tree.method s m f ∷ ms) w e =
      members_extend (signatures_after type_of ss f.parameters) ms w (after_extends ss f.parameters w e)
  members_extend ss (tree.cases s cs ∷ ms) w e = members_extend ss ms w e

  declarations_extend : (ss : List Signature) (ds : List Decl) → Extends ss (signatures_in type_of ss ds)
  declarations_extend ss [] w e = e
  declarations_extend ss (tree.struct_of s n noncopyable ms ∷ ds) w e =
      declarations_extend (member_signatures type_of ss ms) ds w (members_extend ss ms w e)
  declarations_extend ss (tree.enum_of s n noncopyable ms ∷ ds) w e =
      declarations_extend (member_signatures type_of ss ms) ds w (members_extend ss ms w e)
  declarations_extend ss (tree.function f ∷ ds) w e =
      declarations_extend (signatures_after type_of ss f.parameters) ds w (after_extends ss f.parameters w e)

  -- ---- each parameter that is a function has its type there

  abbrev pub IsThere : List Signature → ParameterType → Type 0
  IsThere final (written.Named s m n) = Unit {0}
  IsThere final (written.Function s ps r) = has_signature final (signature_of type_of ps r) ≡ true

  abbrev pub AreThere : List Signature → List Parameter → Type 0
  AreThere final [] = Unit {0}
  AreThere final (p ∷ ps) = IsThere final p.written × AreThere final ps

  is_there :
      (ss final : List Signature) (p : ParameterType) → Extends (signatures_with type_of ss p) final → IsThere final p
  is_there ss final (written.Named s m n) more = tt
  is_there ss final (written.Function s ps r) more =
      more (signature_of type_of ps r) (with_has ss (signature_of type_of ps r) (signature_itself type_of ps r))

  pub are_there :
      (ss final : List Signature) (ps : List Parameter) → Extends (signatures_after type_of ss ps) final
      → AreThere final ps
  are_there ss final [] more = tt
  are_there ss final (p ∷ ps) more = (
    is_there ss final p.written (λ w e. more w (after_extends (signatures_with type_of ss p.written) ps w e)),
    are_there (signatures_with type_of ss p.written) final ps more,
  )

  abbrev pub MembersThere : List Signature → List Member → Type 0
  MembersThere final [] = Unit {0}
  MembersThere final (tree.field f ∷ ms) = MembersThere final ms
  MembersThere final (tree.initializer s ps b ∷ ms) = AreThere final ps × MembersThere final ms
  MembersThere final (tree.deinitializer s b ∷ ms) = MembersThere final ms
  MembersThere final (tree.method s m f ∷ ms) = AreThere final f.parameters × MembersThere final ms
  MembersThere final (tree.cases s cs ∷ ms) = MembersThere final ms

  members_there :
      (ss final : List Signature) (ms : List Member) → Extends (member_signatures type_of ss ms) final
      → MembersThere final ms
  members_there ss final [] more = tt
  members_there ss final (tree.field f ∷ ms) more = members_there ss final ms more
  members_there ss final (tree.initializer s ps b ∷ ms) more = (
    are_there ss final ps (λ w e. more w (members_extend (signatures_after type_of ss ps) ms w e)),
    members_there
        (signatures_after type_of ss ps) final ms more,
  )
  members_there ss final (tree.deinitializer s b ∷ ms) more = members_there ss final ms more
  members_there ss final (tree.method s m f ∷ ms) more = (
    are_there ss final f.parameters
        (λ w e. more w (members_extend (signatures_after type_of ss f.parameters) ms w e)),
    members_there
        (signatures_after type_of ss f.parameters) final ms more,
  )
  members_there ss final (tree.cases s cs ∷ ms) more = members_there ss final ms more

  abbrev pub DeclarationsThere : List Signature → List Decl → Type 0
  DeclarationsThere final [] = Unit {0}
  DeclarationsThere final (tree.struct_of s n noncopyable ms ∷ ds) = MembersThere final ms × DeclarationsThere final ds
  DeclarationsThere final (tree.enum_of s n noncopyable ms ∷ ds) = MembersThere final ms × DeclarationsThere final ds
  DeclarationsThere final (tree.function f ∷ ds) = AreThere final f.parameters × DeclarationsThere final ds

  declarations_there :
      (ss final : List Signature) (ds : List Decl) → Extends (signatures_in type_of ss ds) final
      → DeclarationsThere final ds
  declarations_there ss final [] more = tt
  declarations_there ss final (tree.struct_of s n noncopyable ms ∷ ds) more = (
    members_there ss final ms (λ w e. more w (declarations_extend (member_signatures type_of ss ms) ds w e)),
    declarations_there (member_signatures type_of ss ms) final ds more,
  )
  declarations_there ss final (tree.enum_of s n noncopyable ms ∷ ds) more = (
    members_there ss final ms (λ w e. more w (declarations_extend (member_signatures type_of ss ms) ds w e)),
    declarations_there (member_signatures type_of ss ms) final ds more,
  )
  declarations_there ss final (tree.function f ∷ ds) more = (
    are_there ss final f.parameters
        (λ w e. more w (declarations_extend (signatures_after type_of ss f.parameters) ds w e)),
    declarations_there
        (signatures_after type_of ss f.parameters) final ds more,
  )

  pub all_there : (ds : List Decl) → DeclarationsThere (signatures_in type_of [] ds) ds
  all_there ds = declarations_there [] (signatures_in type_of [] ds) ds (λ w e. e)

  -- ---- what holds of each written type holds of each function type's

  module _ (Good : Ty → Type 0) (written_good : (name : List ℕ) → Good (type_of name)) (unit : Good type.Unit) where
    abbrev pub ParamsGood : List ParamInfo → Type 0
    ParamsGood [] = Unit {0}
    ParamsGood (p ∷ ps) = Good p.ty × ParamsGood ps

    abbrev pub SignatureGood : Signature → Type 0
    SignatureGood g = ParamsGood g.params × Good g.result

    abbrev AllGood : List Signature → Type 0
    AllGood [] = Unit {0}
    AllGood (g ∷ gs) = SignatureGood g × AllGood gs

    inner_good : (ps : List FunctionParameter) → ParamsGood (map (inner_param type_of) ps)
    inner_good [] = tt
    inner_good (p ∷ ps) = (written_good p.name.text, inner_good ps)

    void_good : (b : Bool) (name : List ℕ) → Good (if b then type.Unit else type_of name)
    void_good true name = unit
    void_good false name = written_good name

    pub result_good : (r : ResultType) → Good (result_of type_of r)
    result_good (result.Named n) = void_good (bytes_eq n.text VOID) n.text
    result_good (result.Empty s) = unit

    signature_good : (ps : List FunctionParameter) (r : ResultType) → SignatureGood (signature_of type_of ps r)
    signature_good ps r = (inner_good ps, result_good r)

    one_more : (gs : List Signature) (g : Signature) → AllGood gs → SignatureGood g → AllGood (gs ++ g ∷ [])
    one_more [] g all one = (one, tt)
    one_more (h ∷ hs) g all one = (all.0, one_more hs g all.1 one)

    with_good :
        (b : Bool) (gs : List Signature) (g : Signature) → AllGood gs → SignatureGood g
        → AllGood (if b then gs else gs ++ g ∷ [])
    with_good true gs g all one = all
    with_good false gs g all one = one_more gs g all one

    written_all : (ss : List Signature) (p : ParameterType) → AllGood ss → AllGood (signatures_with type_of ss p)
    written_all ss (written.Named s m n) all = all
    written_all ss (written.Function s ps r) all =
        with_good (has_signature ss (signature_of type_of ps r)) ss (signature_of type_of ps r) all
        (signature_good ps r)

    after_all : (ss : List Signature) (ps : List Parameter) → AllGood ss → AllGood (signatures_after type_of ss ps)
    after_all ss [] all = all
    after_all ss (p ∷ ps) all = after_all (signatures_with type_of ss p.written) ps (written_all ss p.written all)

    members_all : (ss : List Signature) (ms : List Member) → AllGood ss → AllGood (member_signatures type_of ss ms)
    members_all ss [] all = all
    members_all ss (tree.field f ∷ ms) all = members_all ss ms all
    members_all ss (tree.initializer s ps b ∷ ms) all =
        members_all (signatures_after type_of ss ps) ms (after_all ss ps all)
    members_all ss (tree.deinitializer s b ∷ ms) all = members_all ss ms all
    members_all ss (tree.method s m f ∷ ms) all =
        members_all (signatures_after type_of ss f.parameters) ms (after_all ss f.parameters all)
    members_all ss (tree.cases s cs ∷ ms) all = members_all ss ms all

    declarations_all : (ss : List Signature) (ds : List Decl) → AllGood ss → AllGood (signatures_in type_of ss ds)
    declarations_all ss [] all = all
    declarations_all ss (tree.struct_of s n noncopyable ms ∷ ds) all =
        declarations_all (member_signatures type_of ss ms) ds (members_all ss ms all)
    declarations_all ss (tree.enum_of s n noncopyable ms ∷ ds) all =
        declarations_all (member_signatures type_of ss ms) ds (members_all ss ms all)
    declarations_all ss (tree.function f ∷ ds) all =
        declarations_all (signatures_after type_of ss f.parameters) ds (after_all ss f.parameters all)

    same_some : (a b : Signature) → Some a ≡ Some b → a ≡ b
    same_some a b e = cc

    one_of : (gs : List Signature) (i : ℕ) (g : Signature) → AllGood gs → slice_get gs i ≡ Some g → SignatureGood g
    one_of [] i g all e = absurd (cc)
    one_of (h ∷ hs) zero g all e = subst SignatureGood (same_some h g e) all.0
    one_of (h ∷ hs) (suc i) g all e = one_of hs i g all.1 e

    pub found_good :
        (ds : List Decl) (i : ℕ) (g : Signature) → slice_get (signatures_in type_of [] ds) i ≡ Some g
        → SignatureGood g
    found_good ds i g e = one_of (signatures_in type_of [] ds) i g (declarations_all [] ds tt) e
