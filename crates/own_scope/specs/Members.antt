-- Parts of types that are looked up, with their numbers.
use Rattle.std.specs.Prelude.{ℕ}
use Rattle.std.specs.Borrow.{Bor}
use Rattle.own_shapes.specs.declared.info.CaseInfo.{CaseInfo}
use Rattle.own_shapes.specs.declared.info.FieldInfo.{FieldInfo}

abbrev pub property_held : ℕ × Bor FieldInfo → ℕ × FieldInfo
property_held p = (p.0, p.1.now)

abbrev pub case_held : ℕ × Bor CaseInfo → ℕ × CaseInfo
case_held p = (p.0, p.1.now)
