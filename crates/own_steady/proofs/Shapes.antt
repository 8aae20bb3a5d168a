-- Each type of a program unfolds to tracked parts of their own types.
use Rattle.std.proofs.Common.{◌≡◌, ℕ, zero, suc, ◌<◌, Bool, true, false, List, [], ◌∷◌, Some, refl, sym, ap, ◌∙◌, subst, arith}
use Rattle.std.proofs.lemmas.Grind.{common_steps}
use Rattle.std.specs.Prelude.{IsTrue, nat_lt, Contains, slice_get}
use Rattle.own_tree.specs.declared.place.Ty.{Ty}
use Rattle.own_tree.specs.declared.place.Ty.TheVariants as type
use Rattle.own_tree.specs.TypedSource.{Program}
use Rattle.own_shapes.specs.declared.info.CaseInfo.{CaseInfo}
use Rattle.own_shapes.specs.declared.info.FieldInfo.{FieldInfo}
use Rattle.own_shapes.specs.Types.{TypeHead, Shape, Shapes, Payloads, no_shapes, no_payloads, payloads, shape_at, property_shape, Types, shapes_of, payloads_of, field_types, case_types, is_part}
use Rattle.own_shapes.specs.Types as shape
use Rattle.own_table.specs.Table.{AreWhole}
use Rattle.own_runs.specs.Patterns.{payloads_at}
use Rattle.own_judged.specs.Text.{Text}
use Rattle.own_known.specs.Known.{IsTypeHere}
use Rattle.own_runs.specs.Values.{field}
use Rattle.own_steady.specs.Fits.{HasShape, HasCase, HasPart}
use Rattle.own_steady.specs.Programs.{AreBasic, setting}
use Rattle.own_steady.proofs.Destroying.{Deep, AllDeep, CasesDeep}

-- ---- shapes apart

abbrev HeadOr : TypeHead → Shape → TypeHead
HeadOr d (shape.struct head fields) = head
HeadOr d (shape.enum head cases) = head
HeadOr d shape.number = d
HeadOr d shape.truth = d
HeadOr d shape.no_value = d
HeadOr d shape.closure = d

abbrev FieldsOf : Shape → Shapes
FieldsOf (shape.struct head fields) = fields
FieldsOf (shape.enum head cases) = no_shapes
FieldsOf shape.number = no_shapes
FieldsOf shape.truth = no_shapes
FieldsOf shape.no_value = no_shapes
FieldsOf shape.closure = no_shapes

abbrev CasesOf : Shape → Payloads
CasesOf (shape.struct head fields) = no_payloads
CasesOf (shape.enum head cases) = cases
CasesOf shape.number = no_payloads
CasesOf shape.truth = no_payloads
CasesOf shape.no_value = no_payloads
CasesOf shape.closure = no_payloads

-- ---- lists

pub contains_first : {A : Type 0} (x : A) (xs : List A) → Contains (x ∷ xs) x
contains_first x xs = (0, omega arith, refl)

pub contains_later : {A : Type 0} (x y : A) (xs : List A) → Contains xs y → Contains (x ∷ xs) y
contains_later x y xs c = (suc c.0, omega (arith, c.1), c.2)

below_by_test : (k n : ℕ) → nat_lt k n ≡ true → k < n
below_by_test k n e = grind (arith, common_steps)

module _ (text : Text) (program : Program) (node_type : ℕ → Ty) (outer : ℕ → List ℕ) (basic : AreBasic text.types) (whole : AreWhole text.types) where
  abbrev types : Types
  types = text.types

  abbrev Ok : Ty → Type 0
  Ok ty = IsTypeHere text program ty

  pub part_ok : (ty : Ty) → IsTrue (is_part types.count ty) → Ok ty
  part_ok type.Int h = tt
  part_ok type.Bool h = tt
  part_ok type.Unit h = tt
  part_ok (type.Fun k) h = absurd (cc)
  part_ok (type.Named k) h = below_by_test k types.count h

  abbrev AllOk : List Ty → Type 0
  AllOk tys = (ty : Ty) → Contains tys ty → Ok ty

  fields_ok : (fs : List FieldInfo) → ((f : FieldInfo) → Contains fs f → IsTrue (is_part types.count f.ty)) → AllOk (field_types fs)
  fields_ok [] h ty c = absurd (omega (arith, c.1))
  fields_ok (f ∷ fs) h ty (zero, c, e) = subst Ok e (part_ok f.ty (h f (contains_first f fs)))
  fields_ok (f ∷ fs) h ty (suc k, c, e) = fields_ok fs (λ g d. h g (contains_later f g fs d)) ty (k, omega (arith, c), e)

  payloads_ok : (tys : List Ty) → ((ty : Ty) → Contains tys ty → IsTrue (is_part types.count ty)) → AllOk tys
  payloads_ok tys h ty c = part_ok ty (h ty c)

  abbrev CasesOk : List CaseInfo → Type 0
  CasesOk cs = (c : CaseInfo) → Contains cs c → AllOk c.payloads

  mutual
    deep_as : (s : Shape) (ty : Ty) → types.shape ty ≡ s → Ok ty → Deep (setting text program node_type outer) s
    deep_as shape.number ty e o = tt
    deep_as shape.truth ty e o = tt
    deep_as shape.no_value ty e o = tt
    deep_as shape.closure ty e o = tt
    deep_as (shape.struct head fields) type.Int e o = absurd (apart (sym basic.ints ∙ e))
      where
        apart : shape.number ≡ shape.struct head fields → ⊥
        apart q = cc
    deep_as (shape.struct head fields) type.Bool e o = absurd (apart (sym basic.truths ∙ e))
      where
        apart : shape.truth ≡ shape.struct head fields → ⊥
        apart q = cc
    deep_as (shape.struct head fields) type.Unit e o = absurd (apart (sym basic.units ∙ e))
      where
        apart : shape.no_value ≡ shape.struct head fields → ⊥
        apart q = cc
    deep_as (shape.struct head fields) (type.Fun k) e o = absurd (apart (sym (basic.functions k) ∙ e))
      where
        apart : shape.closure ≡ shape.struct head fields → ⊥
        apart q = cc
    deep_as (shape.struct head fields) (type.Named k) e o = of_struct (λ tys q a. all_deep fields tys q a) (types.is_enum (type.Named k)) refl
      where
        of_struct : ((tys : List Ty) → shapes_of types.shape tys ≡ fields → AllOk tys → AllDeep (setting text program node_type outer) fields) → (b : Bool) → types.is_enum (type.Named k) ≡ b → Deep (setting text program node_type outer) (shape.struct head fields)
        of_struct inner false is =
            let s = whole.struct_shape k o is in
            let q = sym s.1 ∙ e in (
              subst (λ z. types.shape (type.Named z) ≡ shape.struct head fields) (sym (s.2).number ∙ ap (λ z. (HeadOr s.0 z).number) q) e,
              inner (field_types (types.properties (type.Named k))) (ap FieldsOf q)
                  (fields_ok (types.properties (type.Named k)) (whole.field_part k o is)),
            )
        of_struct inner true is =
            let s = whole.enum_shape k o is in
            absurd (apart (sym s.1 ∙ e))
          where
            apart : shape.enum (whole.enum_shape k o is).0 (payloads_of types.shape (case_types (types.cases (type.Named k)))) ≡ shape.struct head fields → ⊥
            apart q = cc
    deep_as (shape.enum head cases) type.Int e o = absurd (apart (sym basic.ints ∙ e))
      where
        apart : shape.number ≡ shape.enum head cases → ⊥
        apart q = cc
    deep_as (shape.enum head cases) type.Bool e o = absurd (apart (sym basic.truths ∙ e))
      where
        apart : shape.truth ≡ shape.enum head cases → ⊥
        apart q = cc
    deep_as (shape.enum head cases) type.Unit e o = absurd (apart (sym basic.units ∙ e))
      where
        apart : shape.no_value ≡ shape.enum head cases → ⊥
        apart q = cc
    deep_as (shape.enum head cases) (type.Fun k) e o = absurd (apart (sym (basic.functions k) ∙ e))
      where
        apart : shape.closure ≡ shape.enum head cases → ⊥
        apart q = cc
    deep_as (shape.enum head cases) (type.Named k) e o = of_enum (λ cs q a. cases_deep cases cs q a) (types.is_enum (type.Named k)) refl
      where
        of_enum : ((cs : List CaseInfo) → payloads_of types.shape (case_types cs) ≡ cases → CasesOk cs → CasesDeep (setting text program node_type outer) cases) → (b : Bool) → types.is_enum (type.Named k) ≡ b → Deep (setting text program node_type outer) (shape.enum head cases)
        of_enum inner true is =
            let s = whole.enum_shape k o is in
            let q = sym s.1 ∙ e in
            inner (types.cases (type.Named k)) (ap CasesOf q)
            (λ c d. payloads_ok c.payloads (whole.payload_part k o is c d))
        of_enum inner false is =
            let s = whole.struct_shape k o is in
            absurd (apart (sym s.1 ∙ e))
          where
            apart : shape.struct (whole.struct_shape k o is).0 (shapes_of types.shape (field_types (types.properties (type.Named k)))) ≡ shape.enum head cases → ⊥
            apart q = cc

    all_deep : (ss : Shapes) (tys : List Ty) → shapes_of types.shape tys ≡ ss → AllOk tys → AllDeep (setting text program node_type outer) ss
    all_deep no_shapes tys e o = tt
    all_deep (shape.shape s ss) [] e o = absurd (apart e)
      where
        apart : no_shapes ≡ shape.shape s ss → ⊥
        apart q = cc
    all_deep (shape.shape s ss) (ty ∷ tys) e o =
        (deep_as s ty (ap first e) (o ty (contains_first ty tys)), all_deep ss tys (ap rest e) (λ z c. o z (contains_later ty z tys c)))
      where
        first : Shapes → Shape
        first no_shapes = s
        first (shape.shape t ts) = t

        rest : Shapes → Shapes
        rest no_shapes = ss
        rest (shape.shape t ts) = ts

    cases_deep : (ps : Payloads) (cs : List CaseInfo) → payloads_of types.shape (case_types cs) ≡ ps → CasesOk cs → CasesDeep (setting text program node_type outer) ps
    cases_deep no_payloads cs e o = tt
    cases_deep (payloads ss ps) [] e o = absurd (apart e)
      where
        apart : no_payloads ≡ payloads ss ps → ⊥
        apart q = cc
    cases_deep (payloads ss ps) (c ∷ cs) e o =
        (all_deep ss c.payloads (ap first e) (o c (contains_first c cs)), cases_deep ps cs (ap rest e) (λ z d. o z (contains_later c z cs d)))
      where
        first : Payloads → Shapes
        first no_payloads = ss
        first (payloads t ts) = t

        rest : Payloads → Payloads
        rest no_payloads = ps
        rest (payloads t ts) = ts

  pub deep : (ty : Ty) → Ok ty → Deep (setting text program node_type outer) (types.shape ty)
  deep ty o = deep_as (types.shape ty) ty refl o

-- ---- properties and payloads, by their number

nothing_there : {A : Type 0} {B : Type 0} (k : ℕ) (x : A) → slice_get [] k ≡ Some x → B
nothing_there k x e = absurd (cc)

pub has_property : (f : Ty → Shape) (fs : List FieldInfo) (k : ℕ) (x : FieldInfo) → slice_get fs k ≡ Some x
    → HasShape (shapes_of f (field_types fs)) k × (shape_at (shapes_of f (field_types fs)) k ≡ f x.ty)
has_property f [] k x e = nothing_there k x e
has_property f (y ∷ ys) zero x e = (tt, ap f (ap (λ z. z.ty) (same e)))
  where
    same : Some y ≡ Some x → y ≡ x
    same q = cc
has_property f (y ∷ ys) (suc k) x e = has_property f ys k x e

pub has_case : (f : Ty → Shape) (cs : List CaseInfo) (k : ℕ) (c : CaseInfo) → slice_get cs k ≡ Some c
    → HasCase (payloads_of f (case_types cs)) k × (payloads_at (payloads_of f (case_types cs)) k ≡ shapes_of f c.payloads)
has_case f [] k c e = nothing_there k c e
has_case f (y ∷ ys) zero c e = (tt, ap (λ z. shapes_of f z.payloads) (same e))
  where
    same : Some y ≡ Some c → y ≡ c
    same q = cc
has_case f (y ∷ ys) (suc k) c e = has_case f ys k c e

module _ (text : Text) (program : Program) (basic : AreBasic text.types) (whole : AreWhole text.types) where
  -- a stored property is a part of the shape
  property_of : (t : ℕ) (b : Bool) → text.types.is_enum (type.Named t) ≡ b → t < text.types.count → (k : ℕ) (f : FieldInfo) → slice_get (text.types.properties (type.Named t)) k ≡ Some f
      → HasPart (text.types.shape (type.Named t)) (field k) × (property_shape (text.types.shape (type.Named t)) k ≡ text.types.shape f.ty)
  property_of t true is o k f e = nothing_there k f (subst (λ fs. slice_get fs k ≡ Some f) (whole.enum_properties t o is) e)
  property_of t false is o k f e =
      let s = whole.struct_shape t o is in
      let h = has_property text.types.shape (text.types.properties (type.Named t)) k f e in
      (subst (λ z. HasPart z (field k)) (sym s.1) h.0, ap (λ z. property_shape z k) s.1 ∙ h.1)

  pub property_there : (ty : Ty) → IsTypeHere text program ty → (k : ℕ) (f : FieldInfo) → slice_get (text.types.properties ty) k ≡ Some f
      → HasPart (text.types.shape ty) (field k) × (property_shape (text.types.shape ty) k ≡ text.types.shape f.ty)
  property_there type.Int o k f e = nothing_there k f (subst (λ fs. slice_get fs k ≡ Some f) (basic.no_properties type.Int tt) e)
  property_there type.Bool o k f e = nothing_there k f (subst (λ fs. slice_get fs k ≡ Some f) (basic.no_properties type.Bool tt) e)
  property_there type.Unit o k f e = nothing_there k f (subst (λ fs. slice_get fs k ≡ Some f) (basic.no_properties type.Unit tt) e)
  property_there (type.Fun i) o k f e = nothing_there k f (subst (λ fs. slice_get fs k ≡ Some f) (basic.no_properties (type.Fun i) tt) e)
  property_there (type.Named t) o k f e = property_of t (text.types.is_enum (type.Named t)) refl o k f e

  -- a type with cases is an enum with their payloads
  pub record EnumHas (t k : ℕ) (c : CaseInfo) : Type 0 where
    pub head : TypeHead
    pub cases : Payloads
    pub shape : text.types.shape (type.Named t) ≡ shape.enum head cases
    pub has : HasCase cases k
    pub payloads : payloads_at cases k ≡ shapes_of text.types.shape c.payloads
    pub parts : (ty : Ty) → Contains c.payloads ty → IsTrue (is_part text.types.count ty)

  contains_at : (cs : List CaseInfo) (k : ℕ) (c : CaseInfo) → slice_get cs k ≡ Some c → Contains cs c
  contains_at [] k c e = nothing_there k c e
  contains_at (y ∷ ys) zero c e = subst (Contains (y ∷ ys)) same (contains_first y ys)
    where
      same : y ≡ c
      same = cc
  contains_at (y ∷ ys) (suc k) c e = contains_later y c ys (contains_at ys k c e)

  case_of : (t : ℕ) (b : Bool) → text.types.is_enum (type.Named t) ≡ b → t < text.types.count → (k : ℕ) (c : CaseInfo) → slice_get (text.types.cases (type.Named t)) k ≡ Some c → EnumHas t k c
  case_of t false is o k c e = nothing_there k c (subst (λ cs. slice_get cs k ≡ Some c) (whole.struct_cases t o is) e)
  case_of t true is o k c e =
      let s = whole.enum_shape t o is in
      let h = has_case text.types.shape (text.types.cases (type.Named t)) k c e in
      record {
        head = s.0;
        cases = payloads_of text.types.shape (case_types (text.types.cases (type.Named t)));
        shape = s.1;
        has = h.0;
        payloads = h.1;
        parts = whole.payload_part t o is c (contains_at (text.types.cases (type.Named t)) k c e);
      }

  pub case_there : (t : ℕ) → t < text.types.count → (k : ℕ) (c : CaseInfo) → slice_get (text.types.cases (type.Named t)) k ≡ Some c → EnumHas t k c
  case_there t o k c e = case_of t (text.types.is_enum (type.Named t)) refl o k c e
