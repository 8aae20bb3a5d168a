-- A type has no more leaves than slots: each part takes one.
use Rattle.std.proofs.Common.{◌≡◌, ℕ, zero, suc, ◌+◌, ◌<◌, ◌≤◌, Bool, true, false, ◌||◌, List, [], ◌∷◌, length, map, slice_get, Some, inl, inr, refl, sym, subst, arith, lit≤, length-append}
use Rattle.std.specs.Prelude.{IsTrue, if◌then◌else◌}
use Rattle.std.proofs.lemmas.List.{length-map}
use Rattle.own_tree.specs.declared.limits.TheConstants.{MOST_TYPE_SLOTS}
use Rattle.own_tree.specs.declared.place.Ty.{Ty}
use Rattle.own_tree.specs.declared.place.Ty.TheVariants as type
use Rattle.own_shapes.specs.declared.info.TypeInfo.{TypeInfo}
use Rattle.own_table.specs.Measures.{AreWithin}
use Rattle.own_table.specs.Order.{IsContainmentOrder}
use Rattle.own_shapes.specs.Types.{Shape, struct, enum, is_none, slots, all_slots, leaves, leaves_from, one_if, shapes_of, payloads_of, field_types, case_types, all_case_types, contained, head_of, is_part, declared_shape, types_resolved, PartsAreTypes}
use Rattle.own_shapes.proofs.Lists.{contains_get, In, contains_in}
use Rattle.own_table.proofs.Settled.{order_apart}
use Rattle.own_shapes.proofs.Unfolding.{shapes_unfold}
use Rattle.own_table.proofs.Whole.{got, all_in}

record IsFit (s : Shape) : Type 0 where
  few : length (leaves s) ≤ slots s
  some : 1 ≤ slots s

module _ (shape_of : Ty → Shape) where
  fields_few : (tys : List Ty) (k : ℕ) → ((ty : Ty) → In tys ty → IsFit (shape_of ty)) → length (leaves_from k (shapes_of shape_of tys)) ≤ all_slots (shapes_of shape_of tys)
  fields_few [] k all = omega arith
  fields_few (ty ∷ tys) k all =
      let first = (all ty (inl refl)).few in
      let rest = fields_few tys (suc k) (λ t i. all t (inr i)) in
      let below = map (λ path. k ∷ path) (leaves (shape_of ty)) in
      let joined = length-append below (leaves_from (suc k) (shapes_of shape_of tys)) in
      let same : length below ≡ length (leaves (shape_of ty)) = length-map (leaves (shape_of ty)) (λ path. k ∷ path) in
      omega (arith, first, rest, joined, same)

  struct_fit : (k : ℕ) (t : TypeInfo) (deinit : Bool) (tys : List Ty) → ((ty : Ty) → In tys ty → IsFit (shape_of ty))
      → (length (if deinit || is_none (shapes_of shape_of tys) then [] ∷ [] else leaves_from 0 (shapes_of shape_of tys)) ≤ one_if (deinit || is_none (shapes_of shape_of tys)) + all_slots (shapes_of shape_of tys))
      × (1 ≤ one_if (deinit || is_none (shapes_of shape_of tys)) + all_slots (shapes_of shape_of tys))
  struct_fit k t true tys all = (omega arith, omega arith)
  struct_fit k t false [] all = (omega arith, omega arith)
  struct_fit k t false (ty ∷ tys) all =
      let few = fields_few (ty ∷ tys) 0 all in
      let one = (all ty (inl refl)).some in
      (omega (arith, few), omega (arith, one))

  declared_fit : (k : ℕ) (t : TypeInfo) → ((ty : Ty) → In (contained t) ty → IsFit (shape_of ty)) → IsFit (declared_shape shape_of k t)
  declared_fit k t all = by_kind t.is_enum refl
    where
      by_kind : (b : Bool) → t.is_enum ≡ b → IsFit (declared_shape shape_of k t)
      by_kind true e =
          subst (λ b. IsFit (if b then enum (head_of k t) (payloads_of shape_of (case_types t.cases)) else struct (head_of k t) (shapes_of shape_of (field_types t.fields)))) (sym e)
          (record { few = omega arith; some = omega arith })
      by_kind false e =
          let fit = struct_fit k t t.has_deinit (field_types t.fields) (λ ty i. all ty (subst (λ b. In (if b then all_case_types t.cases else field_types t.fields) ty) (sym e) i)) in
          subst (λ b. IsFit (if b then enum (head_of k t) (payloads_of shape_of (case_types t.cases)) else struct (head_of k t) (shapes_of shape_of (field_types t.fields)))) (sym e)
          (record { few = fit.0; some = fit.1 })

module _ (ts : List TypeInfo) (closed : PartsAreTypes ts) (order : List ℕ) (is : IsContainmentOrder ts order) where
  fit_at : (bound at k : ℕ) → at < bound → slice_get order at ≡ Some k → IsFit ((types_resolved ts).shape (type.Named k))
  fit_at zero at k lt here = absurd (omega (arith, lt))
  fit_at (suc bound) at k lt here = by_type (got ts k (is.after_parts.declared at k here)) (fit_at bound)
    where
      part : (t : TypeInfo) → slice_get ts k ≡ Some t → ((at' k' : ℕ) → at' < bound → slice_get order at' ≡ Some k' → IsFit ((types_resolved ts).shape (type.Named k')))
          → (ty : Ty) → In (contained t) ty → IsTrue (is_part (length ts) ty) → IsFit ((types_resolved ts).shape ty)
      part t e deeper type.Int i p = record { few = lit≤ tt; some = lit≤ tt }
      part t e deeper type.Bool i p = record { few = lit≤ tt; some = lit≤ tt }
      part t e deeper type.Unit i p = absurd cc
      part t e deeper (type.Fun j) i p = absurd cc
      part t e deeper (type.Named j) i p =
          let first = is.after_parts.parts_before at k j here (t, e, contains_in (contained t) (type.Named j) i) in deeper first.0 j (omega (arith, first.1, lt)) first.2

      by_type : (t : TypeInfo) × (slice_get ts k ≡ Some t) → ((at' k' : ℕ) → at' < bound → slice_get order at' ≡ Some k' → IsFit ((types_resolved ts).shape (type.Named k')))
          → IsFit ((types_resolved ts).shape (type.Named k))
      by_type it deeper =
          subst IsFit (sym (shapes_unfold ts (order_apart ts order is) k it.0 it.1))
          (declared_fit (types_resolved ts).shape k it.0 (λ ty i. part it.0 it.1 deeper ty i (all_in (is_part (length ts)) (contained it.0) (closed k it.0 it.1) ty i)))

  pub are_within : ((k : ℕ) → k < length ts → slots ((types_resolved ts).shape (type.Named k)) ≤ MOST_TYPE_SLOTS) → AreWithin ts
  are_within within k lt =
      let place = contains_get order k (is.every k lt) in
      let fit = (fit_at (suc place.0) place.0 k (omega arith) place.2).few in
      let few = within k lt in
      (few, omega (arith, fit, few))
