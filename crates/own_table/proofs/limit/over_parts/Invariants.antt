use Rattle.std.proofs.Common.{◌≡◌, length}
use Rattle.own_tree.specs.declared.limits.TheConstants.{MOST_FIELDS}
use Rattle.own_shapes.specs.Counts.{first_over}
use Rattle.own_table.specs.TypeLimits.{counts_of}
use Rattle.own_table.proofs.limit.over_parts.Given as goal

abbrev pub invariant-left : goal.invariant-left
invariant-left l = first_over MOST_FIELDS (counts_of l.types l.spans) ≡ first_over MOST_FIELDS (counts_of l.fn.types l.fn.spans)

abbrev pub decreases-left : goal.decreases-left
decreases-left l = length l.types
