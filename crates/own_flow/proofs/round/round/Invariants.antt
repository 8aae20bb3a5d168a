use Rattle.std.proofs.Common.{◌≡◌, ◌≤◌, length}
use Rattle.own_flow.specs.Facts.{AreRows}
use Rattle.own_flow.specs.Rounds.{RoundsTo}
use Rattle.own_flow.proofs.round.round.Given as goal

abbrev pub invariant-nodes : goal.invariant-nodes
invariant-nodes l = record {
  len : length l.out ≡ length l.fn.out;
  mask_len : length l.mask ≡ length l.fn.mask;
  count : length l.rows.items ≡ length l.nodes;
  rows : AreRows (length l.pairs) l.rows.items l.waiting.items;
  rounds : RoundsTo l.pairs l.leaves l.nodes l.node l.fn.rows.items l.rows.items l.grown;
  low : l.node ≤ length l.nodes;
}

abbrev pub decreases-nodes : goal.decreases-nodes
decreases-nodes l = l.node
