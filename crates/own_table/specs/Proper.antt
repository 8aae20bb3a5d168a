-- What a declaration is by itself: T04 and T05 hold of it, and it has the parts of its kind.
use Rattle.std.specs.Prelude.{◌≡◌, ℕ, Bool, true, false, not, IsTrue, List, [], slice_get, Option, Some, None}
use Rattle.std.specs.List.{list_all}
use Rattle.own_tree.specs.declared.place.Ty.{Ty}
use Rattle.own_shapes.specs.declared.info.TypeInfo.{TypeInfo}
use Rattle.own_shapes.specs.Types.{contained, declaration}

-- not declared `: ~Copyable` (SE-0390)
abbrev pub declares_copyable : Option TypeInfo → Bool
declares_copyable None = true
declares_copyable (Some t) = not t.noncopyable

abbrev pub is_copyable_among : List TypeInfo → Ty → Bool
is_copyable_among ts ty = declares_copyable (declaration ts ty)

pub record IsProper (ts : List TypeInfo) (t : TypeInfo) : Type 0 where
  -- T04: a copyable type has copyable parts
  pub copyable_parts : t.noncopyable ≡ false → IsTrue (list_all (is_copyable_among ts) (contained t))
  -- T05: a `deinit` stands in a noncopyable struct
  pub deinit : t.has_deinit ≡ true → (t.noncopyable ≡ true) × (t.is_enum ≡ false)
  pub no_cases : t.is_enum ≡ false → t.cases ≡ []
  pub no_properties : t.is_enum ≡ true → t.fields ≡ []

abbrev pub AreProper : List TypeInfo → Type 0
AreProper ts = (k : ℕ) (t : TypeInfo) → slice_get ts k ≡ Some t → IsProper ts t
