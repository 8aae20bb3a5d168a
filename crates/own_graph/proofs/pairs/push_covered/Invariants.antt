use Rattle.std.proofs.Common.{◌≡◌, ◌++◌, drop}
use Rattle.own_walks.specs.Pairs.{covered_pairs}
use Rattle.own_graph.proofs.pairs.push_covered.Given as goal

abbrev pub invariant-leaves : goal.invariant-leaves
invariant-leaves l = l.pairs ++ covered_pairs l.node l.op l.leaf (drop l.leaf l.leaves) ≡ l.initial.pairs ++ covered_pairs l.node l.op 0 l.leaves
