-- One property of a way after the other.
use Rattle.std.proofs.Common.{◌≡◌, ℕ, suc, ◌+◌, ◌<◌, List, [], ◌++◌, length, drop, get_or, slice_get, Some, None, ap, add-one}
use Rattle.std.proofs.Math.Seq.{drop-cons}
use Rattle.own_tree.specs.declared.place.Ty.{Ty}
use Rattle.own_shapes.specs.declared.info.FieldInfo.{FieldInfo}
use Rattle.own_shapes.specs.Types.{Types}
use Rattle.own_report.specs.Findings.{way_text, way_on as way_step, property_text}

pub way_on : (types : Types) (ty : Ty) (fields : List ℕ) (n : ℕ) (f : FieldInfo) → n < length fields
    → slice_get (types.properties ty) (get_or fields n 0) ≡ Some f
    → way_text types ty (drop n fields) ≡ property_text f ++ way_text types f.ty (drop (n + 1) fields)
way_on types ty fields n f within is =
    rw (add-one, drop-cons fields n 0) (ap (way_step (λ t. way_text types t (drop (suc n) fields))) is)

pub way_off : (types : Types) (ty : Ty) (fields : List ℕ) (n : ℕ) → n < length fields
    → slice_get (types.properties ty) (get_or fields n 0) ≡ None → way_text types ty (drop n fields) ≡ []
way_off types ty fields n within is = rw (drop-cons fields n 0) (ap (way_step (λ t. way_text types t (drop (suc n) fields))) is)
