-- What is known of the declarations of a text, and of a place in a body.
use Rattle.std.specs.Prelude.{◌≡◌, ℕ, suc, List, [], ◌∷◌, Option, Some, None, slice_get}
use Rattle.own_tree.specs.declared.place.Ty.{Ty}
use Rattle.own_tree.specs.declared.place.Ty.TheVariants as type
use Rattle.own_tree.specs.declared.tree.Parameter.{Parameter}
use Rattle.own_tree.specs.declared.typed.ParamInfo.{ParamInfo}
use Rattle.own_tree.specs.declared.typed.Signature.{Signature}
use Rattle.own_tree.specs.Source as tree
use Rattle.own_tree.specs.Source.{Member, Decl}
use Rattle.own_tree.specs.TypedSource.{Program}
use Rattle.own_shapes.specs.declared.info.FieldInfo.{FieldInfo}
use Rattle.own_shapes.specs.declared.info.CaseInfo.{CaseInfo}
use Rattle.own_shapes.specs.Types.{property_shape}
use Rattle.own_judged.specs.Bodies.{owner_type, param_info}
use Rattle.own_judged.specs.Names.{Local, Self, Scope, Seen, a_local, a_property, a_method, a_function, the_print, the_read_int, a_type, property, case_of_type}
use Rattle.own_judged.specs.Text.{Text, Callable, Method}
use Rattle.own_known.specs.Known.{IsTypeHere, AreTypes, NamesOf, GivesBack}

module _ (text : Text) (program : Program) where
  abbrev pub IsKnown : Ty → Type 0
  IsKnown ty = IsTypeHere text program ty

  -- ---- declarations

  -- property k of a type: its shape is that part of the type's
  abbrev pub FieldKnown : Ty → (k : ℕ) → FieldInfo → Type 0
  FieldKnown ty k f =
      (slice_get (text.types.properties ty) k ≡ Some f)
      × (property_shape (text.types.shape ty) k ≡ text.types.shape f.ty) × IsKnown f.ty

  abbrev pub ParamsTyped : List ParamInfo → Type 0
  ParamsTyped [] = Unit {0}
  ParamsTyped (p ∷ ps) = IsKnown p.ty × ParamsTyped ps

  abbrev pub SignatureKnown : (f : ℕ) → Signature → Type 0
  SignatureKnown f g =
      (slice_get program.signatures f ≡ Some g) × IsKnown (type.Fun f) × ParamsTyped g.params × IsKnown g.result

  -- what each look-up of a text finds
  pub record TextKnown : Type 0 where
    pub written : (name : List ℕ) → IsKnown (text.written name)
    pub declared : (name : List ℕ) (t : ℕ) → text.declared name ≡ Some t → IsKnown (type.Named t)
    pub property :
        (ty : Ty) (name : List ℕ) (r : ℕ × FieldInfo) → property text ty name ≡ Some r → FieldKnown ty r.0 r.1
    -- a type with a case is declared
    pub case_of : (ty : Ty) (name : List ℕ) (r : ℕ × CaseInfo) → case_of_type text ty name ≡ Some r
        → IsKnown ty × AreTypes text program r.1.payloads × (slice_get (text.types.cases ty) r.0 ≡ Some r.1)
    pub function : (name : List ℕ) (c : Callable) → text.function name ≡ Some c → IsKnown c.result
    pub method : (t : ℕ) (name : List ℕ) (m : Method) → text.method t name ≡ Some m → IsKnown m.callable.result
    pub signature : (f : ℕ) (g : Signature) → slice_get text.signatures f ≡ Some g → SignatureKnown f g

  -- ---- places

  abbrev pub LocalKnown : (body : ℕ) → Local → Type 0
  LocalKnown k l = NamesOf text program k l.binding l.ty × IsKnown l.ty

  abbrev pub LocalsKnown : (body : ℕ) → List Local → Type 0
  LocalsKnown k [] = Unit {0}
  LocalsKnown k (l ∷ ls) = LocalKnown k l × LocalsKnown k ls

  abbrev pub SelfKnown : (body : ℕ) → (owner : Option ℕ) → Option Self → Type 0
  SelfKnown k owner None = Unit {0}
  SelfKnown k owner (Some me) =
      NamesOf text program k me.binding me.ty × (me.ty ≡ owner_type owner) × IsKnown me.ty

  pub record ScopeKnown (scope : Scope) : Type 0 where
    pub locals : LocalsKnown scope.body scope.locals
    pub self : SelfKnown scope.body scope.owner scope.self
    pub gives_back : GivesBack text program scope.body scope.result
    pub result : IsKnown scope.result

  -- what a name stands for there
  abbrev pub SeenKnown : Scope → Seen → Type 0
  SeenKnown scope (a_local l) = LocalKnown scope.body l
  SeenKnown scope (a_property k f) = (t : ℕ) × (scope.owner ≡ Some t) × FieldKnown (type.Named t) k f
  SeenKnown scope (a_method m) =
      (t : ℕ) × (name : List ℕ) × (scope.owner ≡ Some t) × (text.method t name ≡ Some m) × IsKnown m.callable.result
  SeenKnown scope (a_function c) = (name : List ℕ) × (text.function name ≡ Some c) × IsKnown c.result
  SeenKnown scope the_print = Unit {0}
  SeenKnown scope the_read_int = Unit {0}
  SeenKnown scope (a_type t) = IsKnown (type.Named t)

  -- ---- the parameters of declared bodies, and the types that they are members of

  abbrev pub ParamsHere : List Parameter → Type 0
  ParamsHere [] = Unit {0}
  ParamsHere (p ∷ ps) = IsKnown (param_info text p).ty × ParamsHere ps

  abbrev pub MembersHere : List Member → Type 0
  MembersHere [] = Unit {0}
  MembersHere (tree.field f ∷ ms) = MembersHere ms
  MembersHere (tree.initializer s ps b ∷ ms) = ParamsHere ps × MembersHere ms
  MembersHere (tree.deinitializer s b ∷ ms) = MembersHere ms
  MembersHere (tree.method s m f ∷ ms) = ParamsHere f.parameters × MembersHere ms
  MembersHere (tree.cases s cs ∷ ms) = MembersHere ms

  -- the first type of which has number t
  abbrev pub DeclarationsHere : (t : ℕ) → List Decl → Type 0
  DeclarationsHere t [] = Unit {0}
  DeclarationsHere t (tree.struct_of s n noncopyable ms ∷ ds) =
      IsKnown (type.Named t) × MembersHere ms × DeclarationsHere (suc t) ds
  DeclarationsHere t (tree.enum_of s n noncopyable ms ∷ ds) =
      IsKnown (type.Named t) × MembersHere ms × DeclarationsHere (suc t) ds
  DeclarationsHere t (tree.function f ∷ ds) = ParamsHere f.parameters × DeclarationsHere t ds
