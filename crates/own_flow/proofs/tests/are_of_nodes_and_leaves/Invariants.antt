use Rattle.std.proofs.Common.{◌<◌}
use Rattle.own_flow.proofs.TestLaws.{OfFirst}
use Rattle.own_flow.proofs.tests.are_of_nodes_and_leaves.Given as goal

abbrev pub invariant-pairs : goal.invariant-pairs
invariant-pairs l = OfFirst (λ p q. (q.node < l.nodes) × (q.leaf < l.leaves)) l.pairs l.p
