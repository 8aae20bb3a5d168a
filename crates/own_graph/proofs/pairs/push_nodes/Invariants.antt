use Rattle.std.proofs.Common.{◌≡◌, ◌++◌, drop}
use Rattle.own_table.specs.Table.{types_in}
use Rattle.own_walks.specs.Pairs.{pairs_from}
use Rattle.own_graph.specs.Makers.{ends_nothing_in}
use Rattle.own_graph.proofs.pairs.push_nodes.Given as goal

abbrev pub invariant-loop-number : goal.invariant-loop-number
invariant-loop-number l =
    l.pairs ++ pairs_from (ends_nothing_in (types_in l.table) l.bindings l.body) l.leaves l.number (drop l.number l.nodes)
    ≡ l.initial.pairs ++ pairs_from (ends_nothing_in (types_in l.table) l.bindings l.body) l.leaves 0 l.nodes
