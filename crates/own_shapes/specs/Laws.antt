-- What is proved of these definitions, for contracts to cite.
use Rattle.std.specs.Prelude.{◌≡◌, ℕ, ◌≤◌, ◌⊎◌, Contains, IsTrue, List, slice_get, Some}
use Rattle.own_tree.specs.declared.place.Ty.TheVariants as type
use Rattle.own_shapes.specs.declared.info.TypeInfo.{TypeInfo}
use Rattle.own_shapes.specs.Places.{is_prefix, PlaceBefore}
use Rattle.own_shapes.specs.Types.{Shape, Shapes, leaves, opened_leaves, slots, all_slots, shape_at, declared_shape, types_resolved, NoneContainsItself}

-- ---- orders

-- a strict order, in which two that are not in order are alike
pub record IsOrder {A : Type 0} (Before Alike : A → A → Type 0) : Type 0 where
  pub apart : (x : A) → Before x x → ⊥
  pub onward : (x y z : A) → Before x y → Before y z → Before x z
  pub total : (x y : A) → Before x y ⊎ Alike x y ⊎ Before y x

abbrev pub PlacesAreOrdered : Type 0
PlacesAreOrdered = IsOrder PlaceBefore (λ p q. p ≡ q)

-- ---- types

-- where no type contains itself, a declared type has the shape of its declaration, by the shapes of what it contains
abbrev pub ShapesUnfold : Type 0
ShapesUnfold =
    (ts : List TypeInfo) → NoneContainsItself ts → (k : ℕ) (t : TypeInfo) → slice_get ts k ≡ Some t
    → (types_resolved ts).shape (type.Named k) ≡ declared_shape (types_resolved ts).shape k t

-- no leaf of a type lies at or below another one
abbrev pub LeavesAreApart : Type 0
LeavesAreApart = (s : Shape) (p q : List ℕ) → Contains (leaves s) p → Contains (leaves s) q → IsTrue (is_prefix p q) → p ≡ q

-- nor one of `self` in `init`
abbrev pub OpenedLeavesAreApart : Type 0
OpenedLeavesAreApart = (s : Shape) (p q : List ℕ) → Contains (opened_leaves s) p → Contains (opened_leaves s) q → IsTrue (is_prefix p q) → p ≡ q

-- a part has no more slots than the struct or the case that it is in
abbrev pub PartsAreNoLarger : Type 0
PartsAreNoLarger = (ss : Shapes) (k : ℕ) → slots (shape_at ss k) ≤ all_slots ss
