-- What a table of types says.
use Rattle.std.specs.Prelude.{◌≡◌, ℕ, ◌<◌, ◌≤◌, true, false, IsTrue, Contains, List, [], length, map, None}
use Rattle.own_tree.specs.declared.limits.TheConstants.{MOST_TYPES, MOST_FIELDS, MOST_PARAMETERS, MOST_TYPE_SLOTS}
use Rattle.own_tree.specs.declared.place.Ty.{Ty}
use Rattle.own_tree.specs.declared.place.Ty.TheVariants as type
use Rattle.own_shapes.specs.declared.info.CaseInfo.{CaseInfo}
use Rattle.own_shapes.specs.declared.info.FieldInfo.{FieldInfo}
use Rattle.own_shapes.specs.declared.info.TypeInfo.{TypeInfo}
use Rattle.own_table.specs.declared.table.TypeTable.{TypeTable}
use Rattle.own_table.specs.Extents.{first_over_M8}
use Rattle.own_shapes.specs.Types.{Types, Shape, TypeHead, struct, enum, shapes_of, payloads_of, field_types, case_types, copyable, holds_tracked, leaves, slots, is_part, IsType, types_resolved}

abbrev pub types_in : TypeTable → Types
types_in table = types_resolved table.types

abbrev pub shape_in_table : TypeTable → Ty → Shape
shape_in_table table ty = (types_in table).shape ty

-- a type of the table
abbrev pub IsTypeIn : TypeTable → Ty → Type 0
IsTypeIn table ty = IsType (types_in table).count ty

-- the table of these types, which are all within M8
pub record IsTableOf (ts : List TypeInfo) (table : TypeTable) : Type 0 where
  pub types : types_in table ≡ types_resolved ts
  pub within : first_over_M8 ts ≡ None

-- ---- what is so in each table

-- The head of a type says which type it is, and which of its stored properties are a `var`. A `deinit` stands in a
-- noncopyable struct (T05).
pub record IsHeadOf (types : Types) (k : ℕ) (head : TypeHead) : Type 0 where
  pub number : head.number ≡ k
  pub changes : head.changes ≡ map (λ f. f.changes) (types.properties (type.Named k))
  pub deinit : head.has_deinit ≡ true → (head.noncopyable ≡ true) × (types.is_enum (type.Named k) ≡ false)

-- Types that are within M4, M5, M7 and M8, each of which has the shape of its declaration, by those of what it contains.
pub record AreWhole (types : Types) : Type 0 where
  pub few : types.count ≤ MOST_TYPES
  pub struct_shape : (k : ℕ) → k < types.count → types.is_enum (type.Named k) ≡ false
      → (head : TypeHead) × (types.shape (type.Named k) ≡ struct head (shapes_of types.shape (field_types (types.properties (type.Named k)))))
      × IsHeadOf types k head
  pub enum_shape : (k : ℕ) → k < types.count → types.is_enum (type.Named k) ≡ true
      → (head : TypeHead) × (types.shape (type.Named k) ≡ enum head (payloads_of types.shape (case_types (types.cases (type.Named k)))))
      × IsHeadOf types k head
  -- a struct has no cases, and an enum no stored properties
  pub struct_cases : (k : ℕ) → k < types.count → types.is_enum (type.Named k) ≡ false → types.cases (type.Named k) ≡ []
  pub enum_properties : (k : ℕ) → k < types.count → types.is_enum (type.Named k) ≡ true → types.properties (type.Named k) ≡ []
  pub field_part : (k : ℕ) → k < types.count → types.is_enum (type.Named k) ≡ false
      → (f : FieldInfo) → Contains (types.properties (type.Named k)) f → IsTrue (is_part types.count f.ty)
  pub payload_part : (k : ℕ) → k < types.count → types.is_enum (type.Named k) ≡ true
      → (c : CaseInfo) → Contains (types.cases (type.Named k)) c → (ty : Ty) → Contains c.payloads ty → IsTrue (is_part types.count ty)
  -- M5 and M7
  pub few_properties : (k : ℕ) → k < types.count → length (types.properties (type.Named k)) ≤ MOST_FIELDS
  pub few_cases : (k : ℕ) → k < types.count → length (types.cases (type.Named k)) ≤ MOST_FIELDS
  pub few_payloads : (k : ℕ) → k < types.count → (c : CaseInfo) → Contains (types.cases (type.Named k)) c → length c.payloads ≤ MOST_PARAMETERS
  -- what is copyable holds nothing tracked (T04, T05)
  pub copyable_holds_none : (ty : Ty) → IsType types.count ty → copyable (types.shape ty) ≡ true → holds_tracked (types.shape ty) ≡ false
  pub few_slots : (k : ℕ) → k < types.count → slots (types.shape (type.Named k)) ≤ MOST_TYPE_SLOTS
  pub few_leaves : (k : ℕ) → k < types.count → length (leaves (types.shape (type.Named k))) ≤ MOST_TYPE_SLOTS

abbrev pub TablesAreWhole : Type 0
TablesAreWhole = (table : TypeTable) → AreWhole (types_in table)
