-- The leaves of a binding that lie at a place or below it, or strictly above it, by the fields that lead there.
use Rattle.std.specs.Prelude.{ℕ, suc, ◌+◌, ◌==◌, Bool, true, false, not, ◌&&◌, ◌||◌, if◌then◌else◌, List, [], ◌∷◌, length, slice_get, Option, Some, None}
use Rattle.own_tree.specs.declared.op.Op.{Op}
use Rattle.own_tree.specs.declared.place.Binding.{Binding}
use Rattle.own_tree.specs.TypedSource.{Program}
use Rattle.own_paths.specs.BodyLimits.{is_maker, leaves_at}
use Rattle.own_paths.specs.Fixed.{binding_leaves}
use Rattle.own_paths.specs.Makers.{leaves_declared, consumes_in_vain}
use Rattle.own_shapes.specs.Places.{is_prefix}
use Rattle.own_shapes.specs.Types.{Types, leaves, leaves_from, shapes_of, field_types}
use Rattle.own_table.specs.Table.{shape_in_table}
use Rattle.own_table.specs.declared.table.TypeTable.{TypeTable}
use Rattle.own_uses.specs.declared.leaves.Part.{Part}
use Rattle.own_uses.specs.declared.leaves.Part.TheVariants as part

abbrev pub count_below : List ℕ → List (List ℕ) → ℕ
count_below fields [] = 0
count_below fields (leaf ∷ ls) = if is_prefix fields leaf then suc (count_below fields ls) else count_below fields ls

abbrev pub is_above : List ℕ → List ℕ → Bool
is_above leaf fields = is_prefix leaf fields && not (is_prefix fields leaf)

abbrev pub one_above : List ℕ → List (List ℕ) → Bool
one_above fields [] = false
one_above fields (leaf ∷ ls) = is_above leaf fields || one_above fields ls

-- how many leaves a binding has, if body k declares it
abbrev pub own_leaves : Types → ℕ → Binding → ℕ
own_leaves types k b = if b.body == k then length (binding_leaves types b) else 0

abbrev pub leaf_counts : Types → ℕ → List Binding → ℕ
leaf_counts types k [] = 0
leaf_counts types k (b ∷ bindings) = own_leaves types k b + leaf_counts types k bindings

-- of these, those at these fields of it or below
abbrev pub own_below : Types → ℕ → List ℕ → Option Binding → ℕ
own_below types k fields None = 0
own_below types k fields (Some b) = if b.body == k then count_below fields (binding_leaves types b) else 0

-- those that are found in a part of a binding
abbrev pub part_below : TypeTable → Part → ℕ
part_below table (part.Opened properties) = length
    (leaves_from 0 (shapes_of (shape_in_table table) (field_types properties.now)))
part_below table (part.Of ty fields) = count_below fields.now (leaves (shape_in_table table ty))
part_below table part.Nothing = 0

abbrev pub part_above : TypeTable → Part → Bool
part_above table (part.Opened properties) = false
part_above table (part.Of ty fields) = one_above fields.now (leaves (shape_in_table table ty))
part_above table part.Nothing = false

-- the leaves that an op of body k makes, ends or declares
abbrev pub makers_of : Types → Program → ℕ → Op → ℕ
makers_of types program k o =
    if is_maker o.kind && not (consumes_in_vain types k (slice_get program.bindings o.place.binding) o)
    then leaves_at o.place (leaves_declared types k 0 program.bindings) else 0
