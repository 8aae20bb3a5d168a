use Rattle.std.proofs.Common.{◌≡◌, ℕ, ◌<◌, ◌≤◌, length, true, false}
use Rattle.own_flow.specs.Flow.{Sized, KeepsFlows, IsWaiting, total}
use Rattle.own_flow.proofs.sweep.sweep.Given as goal

abbrev pub invariant-nodes : goal.invariant-nodes
invariant-nodes l = record {
  flows : KeepsFlows l.nodes l.at l.masks l.fn.rows.items l.rows.items l.fn.waiting.items l.waiting.items;
  none : l.grown ≡ false → (x : ℕ) → l.u ≤ x → ¬ (IsWaiting l.waiting.items x);
  same : l.grown ≡ false → l.rows.items ≡ l.fn.rows.items;
  some : l.grown ≡ true → total l.rows.items < total l.fn.rows.items;
  sized : Sized (length l.nodes) (length l.fn.out) l.rows.items l.waiting.items;
  len : length l.out ≡ length l.fn.out;
  low : l.u ≤ length l.nodes;
}

abbrev pub decreases-nodes : goal.decreases-nodes
decreases-nodes l = l.u
