-- The bindings of a typed text.
use Rattle.std.specs.Prelude.{All, List}
use Rattle.own_tree.specs.declared.place.Binding.{Binding}
use Rattle.own_table.specs.declared.table.TypeTable.{TypeTable}
use Rattle.own_table.specs.Table.{IsTypeIn}

-- each is of a type of the table
abbrev pub AreTyped : TypeTable → List Binding → Type 0
AreTyped table bindings = All (λ b. IsTypeIn table b.ty) bindings
