-- A form of a declared type has no more places than the type has slots.
use Rattle.std.proofs.Common.{◌≡◌, ℕ, ◌+◌, ◌<◌, ◌≤◌, ◌⊎◌, Bool, true, false, ◌||◌, List, [], ◌∷◌, IsTrue, inl, inr, refl, sym, ◌∙◌, subst, arith, ltb-true}
use Rattle.own_tree.specs.declared.place.Ty.{Ty}
use Rattle.own_tree.specs.declared.place.Ty.TheVariants as type
use Rattle.own_shapes.specs.declared.info.CaseInfo.{CaseInfo}
use Rattle.own_table.specs.declared.table.TypeTable.{TypeTable}
use Rattle.own_shapes.specs.Types.{TypeHead, Shape, Shapes, no_shapes, Payloads, no_payloads, payloads, shapes_of, payloads_of, field_types, case_types, is_part, is_none, one_if, slots, all_slots, most_slots}
use Rattle.own_shapes.specs.Types as shape
use Rattle.own_table.specs.Table.{types_in, shape_in_table, AreWhole}
use Rattle.own_table.proofs.Whole.{tables_are_whole}
use Rattle.own_match.specs.Laws.{FormsAreSmall}
use Rattle.own_match.specs.Weights.{weight, weights, most_weight}
use Rattle.own_match.proofs.Narrow.{false_true}
use Rattle.own_match.proofs.Parts.{Parts, CaseParts, each_field, each_case}
use Rattle.own_match.proofs.Steps.{weight_positive}

struct_small : (b : Bool) (ss : Shapes) → weights ss ≤ all_slots ss → 1 ≤ one_if (b || is_none ss) + all_slots ss
struct_small true ss h = omega arith
struct_small false no_shapes h = omega arith
struct_small false (shape.shape s ss) h = omega (arith, h, weight_positive s)

struct_fields : (h g : TypeHead) (ss ts : Shapes) → shape.struct h ss ≡ shape.struct g ts → ss ≡ ts
struct_fields h g ss ts e = cc

enum_payloads : (h g : TypeHead) (cs ds : Payloads) → shape.enum h cs ≡ shape.enum g ds → cs ≡ ds
enum_payloads h g cs ds e = cc

struct_enum : (h g : TypeHead) (ss : Shapes) (ds : Payloads) → shape.struct h ss ≡ shape.enum g ds → ⊥
struct_enum h g ss ds e = cc

module _ (table : TypeTable) where
  abbrev whole : AreWhole (types_in table)
  whole = tables_are_whole table

  abbrev shape_of : Ty → Shape
  shape_of = shape_in_table table

  kind_of : (k : ℕ) → ((types_in table).is_enum (type.Named k) ≡ false) ⊎ ((types_in table).is_enum (type.Named k) ≡ true)
  kind_of k = by_bit ((types_in table).is_enum (type.Named k)) refl
    where
      by_bit : (b : Bool) → (types_in table).is_enum (type.Named k) ≡ b → ((types_in table).is_enum (type.Named k) ≡ false) ⊎ ((types_in table).is_enum (type.Named k) ≡ true)
      by_bit true e = inr e
      by_bit false e = inl e

  fields_of : (h : TypeHead) (ss : Shapes) (k : ℕ) → k < (types_in table).count → shape_of (type.Named k) ≡ shape.struct h ss → (tys : List Ty) × Parts (types_in table).count tys × (shapes_of shape_of tys ≡ ss)
  fields_of h ss k l is = elim (kind_of k) [
    | inl s ↦ (
      field_types ((types_in table).properties (type.Named k)),
      each_field (types_in table).count ((types_in table).properties (type.Named k)) (whole.field_part k l s),
      struct_fields (whole.struct_shape k l s).0 h (shapes_of shape_of (field_types ((types_in table).properties (type.Named k)))) ss (sym (whole.struct_shape k l s).1 ∙ is),
    )
    | inr e ↦ absurd (struct_enum h (whole.enum_shape k l e).0 ss (payloads_of shape_of (case_types ((types_in table).cases (type.Named k)))) (sym is ∙ (whole.enum_shape k l e).1))
  ]

  cases_of : (h : TypeHead) (ds : Payloads) (k : ℕ) → k < (types_in table).count → shape_of (type.Named k) ≡ shape.enum h ds → (cs : List CaseInfo) × CaseParts (types_in table).count cs × (payloads_of shape_of (case_types cs) ≡ ds)
  cases_of h ds k l is = elim (kind_of k) [
    | inl s ↦ absurd (struct_enum (whole.struct_shape k l s).0 h (shapes_of shape_of (field_types ((types_in table).properties (type.Named k)))) ds (sym (whole.struct_shape k l s).1 ∙ is))
    | inr e ↦ (
      (types_in table).cases (type.Named k),
      each_case (types_in table).count ((types_in table).cases (type.Named k)) (whole.payload_part k l e),
      enum_payloads (whole.enum_shape k l e).0 h (payloads_of shape_of (case_types ((types_in table).cases (type.Named k)))) ds (sym (whole.enum_shape k l e).1 ∙ is),
    )
  ]

  -- what a type is, it is declared as
  declared : {A : Type 0} (s : Shape) (k : ℕ) → k < (types_in table).count → shape_of (type.Named k) ≡ s
      → ((h : TypeHead) (ss : Shapes) → shape.struct h ss ≡ s → A) → ((h : TypeHead) (ds : Payloads) → shape.enum h ds ≡ s → A) → A
  declared s k l is on_struct on_enum = elim (kind_of k) [
    | inl e ↦ on_struct (whole.struct_shape k l e).0 (shapes_of shape_of (field_types ((types_in table).properties (type.Named k)))) (sym (whole.struct_shape k l e).1 ∙ is)
    | inr e ↦ on_enum (whole.enum_shape k l e).0 (payloads_of shape_of (case_types ((types_in table).cases (type.Named k)))) (sym (whole.enum_shape k l e).1 ∙ is)
  ]

  no_struct_value : (h : TypeHead) (ss : Shapes) → shape.struct h ss ≡ shape.no_value → ⊥
  no_struct_value h ss e = cc

  no_enum_value : (h : TypeHead) (ds : Payloads) → shape.enum h ds ≡ shape.no_value → ⊥
  no_enum_value h ds e = cc

  tail_of : (s t : Shape) (ss ts : Shapes) → shape.shape s ss ≡ shape.shape t ts → ss ≡ ts
  tail_of s t ss ts e = cc

  head_of : (s t : Shape) (ss ts : Shapes) → shape.shape s ss ≡ shape.shape t ts → s ≡ t
  head_of s t ss ts e = cc

  none_some : (s : Shape) (ss : Shapes) → shape.shape s ss ≡ no_shapes → ⊥
  none_some s ss e = cc

  first_case : (s t : Shapes) (cs ds : Payloads) → payloads s cs ≡ payloads t ds → s ≡ t
  first_case s t cs ds e = cc

  later_cases : (s t : Shapes) (cs ds : Payloads) → payloads s cs ≡ payloads t ds → cs ≡ ds
  later_cases s t cs ds e = cc

  no_cases : (s : Shapes) (cs : Payloads) → payloads s cs ≡ no_payloads → ⊥
  no_cases s cs e = cc

  -- a part is a number, a truth or declared
  part_small : (s : Shape) (ty : Ty) → IsTrue (is_part (types_in table).count ty) → shape_of ty ≡ s → ((k : ℕ) → k < (types_in table).count → shape_of (type.Named k) ≡ s → weight s ≤ slots s) → weight s ≤ slots s
  part_small s type.Int p e named = subst (λ x. weight x ≤ slots x) e (omega arith)
  part_small s type.Bool p e named = subst (λ x. weight x ≤ slots x) e (omega arith)
  part_small s type.Unit p e named = false_true p
  part_small s (type.Fun k) p e named = false_true p
  part_small s (type.Named k) p e named = named k (ltb-true k (types_in table).count p) e

  mutual
    small : (s : Shape) (k : ℕ) → k < (types_in table).count → shape_of (type.Named k) ≡ s → weight s ≤ slots s
    small shape.number k l is = omega arith
    small shape.truth k l is = omega arith
    small shape.no_value k l is = declared shape.no_value k l is (λ h ss e. absurd (no_struct_value h ss e)) (λ h ds e. absurd (no_enum_value h ds e))
    small shape.closure k l is = omega arith
    small (shape.struct h ss) k l is = let f = fields_of h ss k l is in struct_small h.has_deinit ss (all_small ss f.0 f.1 f.2)
    small (shape.enum h ds) k l is = let c = cases_of h ds k l is in omega (arith, cases_small ds c.0 c.1 c.2)

    all_small : (ss : Shapes) (tys : List Ty) → Parts (types_in table).count tys → shapes_of shape_of tys ≡ ss → weights ss ≤ all_slots ss
    all_small no_shapes tys p e = omega arith
    all_small (shape.shape s ss) [] p e = absurd (none_some s ss (sym e))
    all_small (shape.shape s ss) (ty ∷ tys) p e =
        let a : weight s ≤ slots s = part_small s ty p.0 (head_of (shape_of ty) s (shapes_of shape_of tys) ss e) (λ k l is. small s k l is) in
        let b : weights ss ≤ all_slots ss = all_small ss tys p.1 (tail_of (shape_of ty) s (shapes_of shape_of tys) ss e) in
        omega (arith, a, b)

    cases_small : (ds : Payloads) (cs : List CaseInfo) → CaseParts (types_in table).count cs → payloads_of shape_of (case_types cs) ≡ ds → most_weight ds ≤ most_slots ds
    cases_small no_payloads cs p e = omega arith
    cases_small (payloads ss ds) [] p e = absurd (no_cases ss ds (sym e))
    cases_small (payloads ss ds) (c ∷ cs) p e =
        let a : weights ss ≤ all_slots ss = all_small ss c.payloads p.0 (first_case (shapes_of shape_of c.payloads) ss (payloads_of shape_of (case_types cs)) ds e) in
        let b : most_weight ds ≤ most_slots ds = cases_small ds cs p.1 (later_cases (shapes_of shape_of c.payloads) ss (payloads_of shape_of (case_types cs)) ds e) in
        omega (arith, a, b)

pub forms_are_small : FormsAreSmall
forms_are_small table k l = omega (arith, small table (shape_in_table table (type.Named k)) k l refl, (tables_are_whole table).few_slots k l)
