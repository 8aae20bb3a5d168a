-- What the table says of a type that is not declared, and of `self` in `init`.
use Rattle.std.proofs.Common.{◌≡◌, ℕ, ◌+◌, ◌<◌, ◌≤◌, true, false, List, length, None, slice_get, sym, ap, ◌∙◌}
use Rattle.std.proofs.lemmas.Option.{slice_get_past}
use Rattle.own_tree.specs.declared.place.Ty.TheVariants as type
use Rattle.own_shapes.specs.Types.{no_value, shapes_of, field_types, leaves, leaves_from, opened_leaves, unfolded, shape_of_declared}
use Rattle.own_table.specs.declared.table.TypeTable.{TypeTable}
use Rattle.own_table.specs.Table.{types_in, shape_in_table}
use Rattle.own_table.proofs.Whole.{tables_are_whole}

module _ (table : TypeTable) where
  pub undeclared : (k : ℕ) → (types_in table).count ≤ k → shape_in_table table (type.Named k) ≡ no_value
  undeclared k past = ap (shape_of_declared (unfolded table.types (length table.types)) k) (slice_get_past table.types k past)

  pub opened_struct : (k : ℕ) → k < (types_in table).count → (types_in table).is_enum (type.Named k) ≡ false
      → opened_leaves (shape_in_table table (type.Named k)) ≡ leaves_from 0 (shapes_of (shape_in_table table) (field_types ((types_in table).properties (type.Named k))))
  opened_struct k within struct = ap opened_leaves ((tables_are_whole table).struct_shape k within struct).1

  pub opened_enum : (k : ℕ) → k < (types_in table).count → (types_in table).is_enum (type.Named k) ≡ true
      → opened_leaves (shape_in_table table (type.Named k)) ≡ leaves (shape_in_table table (type.Named k))
  opened_enum k within enum = let shape = ((tables_are_whole table).enum_shape k within enum).1 in ap opened_leaves shape ∙ sym (ap leaves shape)

  pub opened_absent : (k : ℕ) → (types_in table).count ≤ k → opened_leaves (shape_in_table table (type.Named k)) ≡ leaves (shape_in_table table (type.Named k))
  opened_absent k past = ap opened_leaves (undeclared k past) ∙ sym (ap leaves (undeclared k past))
