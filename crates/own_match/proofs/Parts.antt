-- What a declared type is made of are types of the table.
use Rattle.std.proofs.Common.{ℕ, suc, List, [], ◌∷◌, IsTrue, Contains, refl, arith, ltb-true}
use Rattle.std.specs.List.{AllByRecursion}
use Rattle.own_tree.specs.declared.place.Ty.{Ty}
use Rattle.own_tree.specs.declared.place.Ty.TheVariants as type
use Rattle.own_shapes.specs.declared.info.CaseInfo.{CaseInfo}
use Rattle.own_shapes.specs.declared.info.FieldInfo.{FieldInfo}
use Rattle.own_shapes.specs.Types.{field_types, is_part, IsType}

abbrev pub Parts : ℕ → List Ty → Type 0
Parts count tys = AllByRecursion (λ ty. IsTrue (is_part count ty)) tys

abbrev pub CaseParts : ℕ → List CaseInfo → Type 0
CaseParts count cs = AllByRecursion (λ c. Parts count c.payloads) cs

each_type : (count : ℕ) (tys : List Ty) → ((ty : Ty) → Contains tys ty → IsTrue (is_part count ty)) → Parts count tys
each_type count [] all = tt
each_type count (ty ∷ tys) all = (all ty (0, omega arith, refl), each_type count tys (λ t c. all t (suc c.0, omega (arith, c.1), c.2)))

pub each_field : (count : ℕ) (fs : List FieldInfo) → ((f : FieldInfo) → Contains fs f → IsTrue (is_part count f.ty)) → Parts count (field_types fs)
each_field count [] all = tt
each_field count (f ∷ fs) all = (all f (0, omega arith, refl), each_field count fs (λ g c. all g (suc c.0, omega (arith, c.1), c.2)))

pub each_case : (count : ℕ) (cs : List CaseInfo) → ((c : CaseInfo) → Contains cs c → (ty : Ty) → Contains c.payloads ty → IsTrue (is_part count ty)) → CaseParts count cs
each_case count [] all = tt
each_case count (c ∷ cs) all = (each_type count c.payloads (all c (0, omega arith, refl)), each_case count cs (λ d h. all d (suc h.0, omega (arith, h.1), h.2)))

part_type : (count : ℕ) (ty : Ty) → IsTrue (is_part count ty) → IsType count ty
part_type count type.Int h = tt
part_type count type.Bool h = tt
part_type count type.Unit h = tt
part_type count (type.Fun k) h = tt
part_type count (type.Named k) h = ltb-true k count h

pub part_types : (count : ℕ) (tys : List Ty) → Parts count tys → AllByRecursion (λ ty. IsType count ty) tys
part_types count [] p = tt
part_types count (ty ∷ tys) p = (part_type count ty p.0, part_types count tys p.1)
