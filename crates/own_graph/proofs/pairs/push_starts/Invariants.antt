use Rattle.std.proofs.Common.{◌≡◌, ◌++◌, drop}
use Rattle.own_walks.specs.Pairs.{starts_from}
use Rattle.own_graph.proofs.pairs.push_starts.Given as goal

abbrev pub invariant-loop-leaf : goal.invariant-loop-leaf
invariant-loop-leaf l = l.pairs ++ starts_from l.entry l.leaf (drop l.leaf l.leaves) ≡ l.initial.pairs ++ starts_from l.entry 0 l.leaves
