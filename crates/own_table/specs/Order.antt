-- An order of the declared types in which each comes after what it contains, and how it is found.
use Rattle.std.specs.Prelude.{◌≡◌, ℕ, suc, ◌+◌, ◌*◌, ◌<◌, Contains, List, [], ◌∷◌, length, slice_get, Option, Some, None}
use Rattle.own_tree.specs.declared.place.Ty.{Ty}
use Rattle.own_tree.specs.declared.place.Ty.TheVariants as type
use Rattle.own_shapes.specs.declared.info.TypeInfo.{TypeInfo}
use Rattle.own_table.specs.declared.mark.Mark.{Mark}
use Rattle.own_table.specs.declared.mark.Mark.TheVariants as mark
use Rattle.own_table.specs.declared.mark.Unordered.{Unordered}
use Rattle.own_table.specs.declared.mark.Unordered.TheVariants as unordered
use Rattle.own_shapes.specs.Types.{contained, ContainsIn}

-- type k contains type j at once
abbrev pub HasPart : List TypeInfo → ℕ → ℕ → Type 0
HasPart ts k j = (t : TypeInfo) × (slice_get ts k ≡ Some t) × Contains (contained t) (type.Named j)

-- types, each after those that it contains
pub record ComeAfterParts (ts : List TypeInfo) (order : List ℕ) : Type 0 where
  pub declared : (i k : ℕ) → slice_get order i ≡ Some k → k < length ts
  pub parts_before : (i k j : ℕ) → slice_get order i ≡ Some k → HasPart ts k j → (at : ℕ) × (at < i) × (slice_get order at ≡ Some j)

-- all declared types in such an order
pub record IsContainmentOrder (ts : List TypeInfo) (order : List ℕ) : Type 0 where
  pub after_parts : ComeAfterParts ts order
  pub every : (k : ℕ) → k < length ts → Contains order k

-- why there is none: a type that contains itself (T03)
abbrev pub IsCircle : List TypeInfo → Unordered → Type 0
IsCircle ts (unordered.ContainsItself k) = (steps : ℕ) × ContainsIn ts (suc steps) k k
IsCircle ts unordered.Memory = Unit {0}

-- ---- the way there

-- a declared type that is not settled
abbrev pub unless_settled : ℕ → Option Mark → Option ℕ
unless_settled k None = Some k
unless_settled k (Some mark.New) = Some k
unless_settled k (Some mark.Open) = Some k
unless_settled k (Some mark.Settled) = None

abbrev pub unsettled : List Mark → Ty → Option ℕ
unsettled marks type.Int = None
unsettled marks type.Bool = None
unsettled marks type.Unit = None
unsettled marks (type.Fun k) = None
unsettled marks (type.Named k) = unless_settled k (slice_get marks k)

abbrev pub first_of : Option ℕ → Option ℕ → Option ℕ
first_of None o = o
first_of (Some k) o = Some k

abbrev pub first_unsettled : List Mark → List Ty → Option ℕ
first_unsettled marks [] = None
first_unsettled marks (ty ∷ tys) = first_of (unsettled marks ty) (first_unsettled marks tys)

-- each type on the path contains the next one
abbrev pub LeadsTo : List TypeInfo → ℕ → List ℕ → Type 0
LeadsTo ts k [] = Unit {0}
LeadsTo ts k (j ∷ js) = HasPart ts k j

abbrev pub IsPath : List TypeInfo → List ℕ → Type 0
IsPath ts [] = Unit {0}
IsPath ts (k ∷ ks) = LeadsTo ts k ks × IsPath ts ks

-- The types on the path are open, those in the order are settled.
pub record IsSettling (ts : List TypeInfo) (marks : List Mark) (path order : List ℕ) : Type 0 where
  pub marked : length marks ≡ length ts
  pub path_declared : (k : ℕ) → Contains path k → k < length ts
  pub connected : IsPath ts path
  pub open_on_path : (k : ℕ) → slice_get marks k ≡ Some mark.Open → Contains path k
  pub settled_in_order : (k : ℕ) → slice_get marks k ≡ Some mark.Settled → Contains order k
  pub after_parts : ComeAfterParts ts order

-- no mark goes back
abbrev pub KeepsMarks : List Mark → List Mark → Type 0
KeepsMarks old new = (k : ℕ) → slice_get new k ≡ Some mark.New → slice_get old k ≡ Some mark.New

abbrev pub one_new : Mark → ℕ
one_new mark.New = 1
one_new mark.Open = 0
one_new mark.Settled = 0

abbrev pub count_new : List Mark → ℕ
count_new [] = 0
count_new (m ∷ ms) = one_new m + count_new ms

-- what is left to do: a new type is opened and then settled
abbrev pub work_left : List Mark → List ℕ → ℕ
work_left marks path = 2 * count_new marks + length path
