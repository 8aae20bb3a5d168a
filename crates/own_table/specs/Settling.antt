-- A search for an order of types, by its three lists.
use Rattle.std.specs.Prelude.{◌≡◌, ℕ, List, [], ◌∷◌, ◌++◌, slice_set}
use Rattle.own_shapes.specs.declared.info.TypeInfo.{TypeInfo}
use Rattle.own_table.specs.declared.mark.Mark.TheVariants as mark
use Rattle.own_table.specs.declared.order.Settling.{Settling}
use Rattle.own_table.specs.Order.{IsSettling, KeepsMarks, work_left}

abbrev pub Settles : List TypeInfo → Settling → Type 0
Settles ts s = IsSettling ts s.marks.items s.path.items s.order.items

-- with one more type at the end of the path
abbrev pub SettlesWith : List TypeInfo → Settling → ℕ → Type 0
SettlesWith ts s k = IsSettling ts s.marks.items (s.path.items ++ k ∷ []) s.order.items

abbrev pub work_of : Settling → ℕ
work_of s = work_left s.marks.items s.path.items

abbrev pub work_with : Settling → ℕ → ℕ
work_with s k = work_left s.marks.items (s.path.items ++ k ∷ [])

abbrev pub Keeps : Settling → Settling → Type 0
Keeps old new = KeepsMarks old.marks.items new.marks.items

pub record IsOpened (old new : Settling) (k : ℕ) : Type 0 where
  pub marks : new.marks.items ≡ slice_set old.marks.items k mark.Open
  pub path : new.path.items ≡ old.path.items ++ k ∷ []
  pub order : new.order.items ≡ old.order.items

pub record IsOpenedBelow (old new : Settling) (k part : ℕ) : Type 0 where
  pub marks : new.marks.items ≡ slice_set old.marks.items part mark.Open
  pub path : new.path.items ≡ (old.path.items ++ k ∷ []) ++ part ∷ []
  pub order : new.order.items ≡ old.order.items

pub record IsSettledAs (old new : Settling) (k : ℕ) : Type 0 where
  pub marks : new.marks.items ≡ slice_set old.marks.items k mark.Settled
  pub path : new.path.items ≡ old.path.items
  pub order : new.order.items ≡ old.order.items ++ k ∷ []
