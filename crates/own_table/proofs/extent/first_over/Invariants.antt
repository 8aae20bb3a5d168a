use Rattle.std.proofs.Common.{◌≡◌, drop}
use Rattle.own_table.specs.Extents.{first_over_from, first_over_M8}
use Rattle.own_shapes.specs.Types.{types_resolved}
use Rattle.own_table.proofs.extent.first_over.Given as goal

abbrev pub invariant-loop-number : goal.invariant-loop-number
invariant-loop-number l = first_over_from (types_resolved l.types) l.number (drop l.number l.types) ≡ first_over_M8 l.types
