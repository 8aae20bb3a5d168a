use Rattle.std.proofs.Common.{◌≡◌, ℕ, ◌<◌, length, slice_get, Some}
use Rattle.own_tree.specs.declared.place.Ty.TheVariants as type
use Rattle.own_table.specs.Measures.{measure_of}
use Rattle.own_shapes.specs.Types.{types_resolved}
use Rattle.own_table.proofs.measure.measures.Given as goal

abbrev pub invariant-loop-number : goal.invariant-loop-number
invariant-loop-number l = record {
  each : length l.measures.items ≡ length l.types;
  measured : (at k : ℕ) → at < l.number-index → slice_get l.order at ≡ Some k
      → slice_get l.measures.items k ≡ Some (measure_of ((types_resolved l.types).shape (type.Named k)));
}
