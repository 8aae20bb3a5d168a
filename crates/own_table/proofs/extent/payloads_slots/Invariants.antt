use Rattle.std.proofs.Common.{◌≡◌, ◌*◌, ◌≤◌, Some, drop}
use Rattle.own_tree.specs.declared.limits.TheConstants.{MOST_TYPE_SLOTS}
use Rattle.own_table.specs.Extents.{plus, sum_of_parts}
use Rattle.own_table.proofs.extent.payloads_slots.Given as goal

abbrev pub invariant-loop-ty : goal.invariant-loop-ty
invariant-loop-ty l = record {
  value : plus (Some l.sum) (sum_of_parts l.known (drop l.ty-index l.payloads)) ≡ sum_of_parts l.known l.payloads;
  small : l.sum ≤ MOST_TYPE_SLOTS * l.ty-index;
}
