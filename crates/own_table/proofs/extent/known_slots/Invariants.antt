use Rattle.std.proofs.Common.{◌≡◌, ℕ, ◌<◌, length, slice_get, Some}
use Rattle.std.specs.Prelude.{All}
use Rattle.own_tree.specs.declared.place.Ty.TheVariants as type
use Rattle.own_table.specs.Extents.{IsSmall, within_M8}
use Rattle.own_shapes.specs.Types.{slots, types_resolved}
use Rattle.own_table.proofs.extent.known_slots.Given as goal

abbrev pub invariant-loop-number : goal.invariant-loop-number
invariant-loop-number l = record {
  each : length l.known.items ≡ length l.types;
  small : All IsSmall l.known.items;
  known : (at k : ℕ) → at < l.number-index → slice_get l.order at ≡ Some k
      → slice_get l.known.items k ≡ Some (within_M8 (slots ((types_resolved l.types).shape (type.Named k))));
}
