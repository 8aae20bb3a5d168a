use Rattle.std.proofs.Common.{◌≡◌, length}
use Rattle.own_flow.specs.Flow.{Sized, KeepsFlows, total}
use Rattle.own_flow.proofs.sweep.settle.Given as goal

abbrev pub invariant-sweeps : goal.invariant-sweeps
invariant-sweeps l = record {
  flows : KeepsFlows l.nodes l.at l.masks l.fn.rows.items l.rows.items l.fn.waiting.items l.waiting.items;
  sized : Sized (length l.nodes) (length l.fn.out) l.rows.items l.waiting.items;
  len : length l.out ≡ length l.fn.out;
}

abbrev pub decreases-sweeps : goal.decreases-sweeps
decreases-sweeps l = total l.rows.items
