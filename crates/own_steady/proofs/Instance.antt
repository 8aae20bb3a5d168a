-- The law at worked texts: no run of their programs strays.
use Rattle.std.specs.Prelude.{◌≡◌, ◌≤◌, ◌<◌, ℕ, zero, suc, true, false, IsTrue, Contains, length, [], Result, Ok, Err}
use Rattle.std.proofs.Common.{refl, subst, arith}
use Rattle.own_tree.specs.declared.limits.TheConstants.{MOST_FIELDS, MOST_PARAMETERS, MOST_TYPE_SLOTS}
use Rattle.own_tree.specs.declared.place.Ty.{Ty}
use Rattle.own_tree.specs.declared.place.Ty.TheVariants as type
use Rattle.own_shapes.specs.declared.info.CaseInfo.{CaseInfo}
use Rattle.own_shapes.specs.declared.info.FieldInfo.{FieldInfo}
use Rattle.own_shapes.specs.Types.{TypeHead, Types, types_of, types_declared, IsType, copyable, holds_tracked, slots, leaves, shapes_of, field_types, is_part}
use Rattle.own_shapes.specs.Types as shape
use Rattle.own_table.specs.Table.{AreWhole, IsHeadOf}
use Rattle.own_judging.specs.Coverage.{first_missing}
use Rattle.own_judging.specs.Made.{Made, Fault, nothing_made}
use Rattle.own_judged.specs.Typing.{Typing, typed, all_bodies}
use Rattle.own_steady.specs.Programs.{NeverStrays}
use Rattle.own_steady.proofs.Proved.{typed_programs_do_not_stray}
use Rattle.own_steady.proofs.Seeing.{no_yes}
use Rattle.own_steady.proofs.Tracked.{tracking, tracking_program, sees_a, tracking_is_steady}
use Rattle.own_steady.proofs.Worked.{types_at, nothing_outer, passed_on, passed_program, passed_on_is_steady}

abbrev made_in : Result (Unit {0} × Made) Fault → Made
made_in (Ok r) = r.1
made_in (Err f) = nothing_made

passed_on_is_typed : Typing passed_on passed_program
unfolding typed types_of types_declared first_missing
passed_on_is_typed =
    (made_in ((all_bodies passed_on).run nothing_made), (all_bodies passed_on).is_so nothing_made tt _ refl, refl)

none_below : {A : Type 0} (k : ℕ) → k < 0 → A
none_below k h = absurd (omega (arith, h))

passed_on_is_whole : AreWhole (types_of passed_on)
unfolding types_of types_declared
passed_on_is_whole = record {
  few = omega arith;
  struct_shape = λ k h. none_below k h;
  enum_shape = λ k h. none_below k h;
  struct_cases = λ k h. none_below k h;
  enum_properties = λ k h. none_below k h;
  field_part = λ k h. none_below k h;
  payload_part = λ k h. none_below k h;
  few_properties = λ k h. none_below k h;
  few_cases = λ k h. none_below k h;
  few_payloads = λ k h. none_below k h;
  copyable_holds_none = λ ty h c. holds_none ty;
  few_slots = λ k h. none_below k h;
  few_leaves = λ k h. none_below k h;
}
  where
    holds_none : (ty : Ty) → holds_tracked ((types_of passed_on).shape ty) ≡ false
    holds_none type.Int = refl
    holds_none type.Bool = refl
    holds_none type.Unit = refl
    holds_none (type.Named k) = refl
    holds_none (type.Fun k) = refl

passed_on_never_strays : NeverStrays (types_of passed_on) passed_program
passed_on_never_strays =
    typed_programs_do_not_stray passed_on passed_program (types_at passed_program) nothing_outer passed_on_is_whole
    passed_on_is_typed passed_on_is_steady

-- ---- a struct with a `deinit`

tracking_is_typed : Typing tracking tracking_program
unfolding typed types_of types_declared first_missing
tracking_is_typed =
    (made_in ((all_bodies tracking).run nothing_made), (all_bodies tracking).is_so nothing_made tt _ refl, refl)

abbrev tracking_types : Types
tracking_types = types_of tracking

past_one : {A : Type 0} (k : ℕ) → suc k < 1 → A
past_one k h = absurd (omega (arith, h))

tracking_is_whole : AreWhole (types_of tracking)
unfolding types_of types_declared
tracking_is_whole = record {
  few = omega arith;
  struct_shape = struct_shape;
  enum_shape = λ k h is. no_enum k h is;
  struct_cases = struct_cases;
  enum_properties = λ k h is. no_enum k h is;
  field_part = field_part;
  payload_part = λ k h is. no_enum k h is;
  few_properties = few_properties;
  few_cases = few_cases;
  few_payloads = few_payloads;
  copyable_holds_none = holds_none;
  few_slots = few_slots;
  few_leaves = few_leaves;
}
  where
    no_enum : {A : Type 0} (k : ℕ) → k < 1 → tracking_types.is_enum (type.Named k) ≡ true → A
    no_enum zero h is = no_yes is
    no_enum (suc k) h is = past_one k h

    struct_shape : (k : ℕ) → k < 1 → tracking_types.is_enum (type.Named k) ≡ false
        → (head : TypeHead)
        × (tracking_types.shape (type.Named k) ≡ shape.struct head (shapes_of tracking_types.shape (field_types (tracking_types.properties (type.Named k)))))
        × IsHeadOf tracking_types k head
    struct_shape zero h is = (_, refl, record { number = refl; changes = refl; deinit = λ e. (refl, refl) })
    struct_shape (suc k) h is = past_one k h

    struct_cases : (k : ℕ) → k < 1 → tracking_types.is_enum (type.Named k) ≡ false → tracking_types.cases (type.Named k) ≡ []
    struct_cases zero h is = refl
    struct_cases (suc k) h is = past_one k h

    field_part : (k : ℕ) → k < 1 → tracking_types.is_enum (type.Named k) ≡ false
        → (f : FieldInfo) → Contains (tracking_types.properties (type.Named k)) f → IsTrue (is_part 1 f.ty)
    field_part zero h is f (zero, below, e) = subst (λ z. IsTrue (is_part 1 z.ty)) e refl
    field_part zero h is f (suc i, below, e) = past_one i below
    field_part (suc k) h is f c = past_one k h

    few_properties : (k : ℕ) → k < 1 → length (tracking_types.properties (type.Named k)) ≤ MOST_FIELDS
    few_properties zero h = omega arith
    few_properties (suc k) h = past_one k h

    few_cases : (k : ℕ) → k < 1 → length (tracking_types.cases (type.Named k)) ≤ MOST_FIELDS
    few_cases zero h = omega arith
    few_cases (suc k) h = past_one k h

    few_payloads : (k : ℕ) → k < 1 → (c : CaseInfo) → Contains (tracking_types.cases (type.Named k)) c → length c.payloads ≤ MOST_PARAMETERS
    few_payloads zero h c (i, below, e) = absurd (omega (arith, below))
    few_payloads (suc k) h c d = past_one k h

    holds_none : (ty : Ty) → IsType 1 ty → copyable (tracking_types.shape ty) ≡ true → holds_tracked (tracking_types.shape ty) ≡ false
    holds_none type.Int h c = refl
    holds_none type.Bool h c = refl
    holds_none type.Unit h c = refl
    holds_none (type.Fun k) h c = refl
    holds_none (type.Named zero) h c = no_yes c
    holds_none (type.Named (suc k)) h c = past_one k h

    few_slots : (k : ℕ) → k < 1 → slots (tracking_types.shape (type.Named k)) ≤ MOST_TYPE_SLOTS
    few_slots zero h = omega arith
    few_slots (suc k) h = past_one k h

    few_leaves : (k : ℕ) → k < 1 → length (leaves (tracking_types.shape (type.Named k))) ≤ MOST_TYPE_SLOTS
    few_leaves zero h = omega arith
    few_leaves (suc k) h = past_one k h

tracking_never_strays : NeverStrays (types_of tracking) tracking_program
tracking_never_strays =
    typed_programs_do_not_stray tracking tracking_program (types_at tracking_program) sees_a tracking_is_whole
    tracking_is_typed tracking_is_steady
