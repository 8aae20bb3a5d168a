use Rattle.std.proofs.Common.{◌≡◌, drop, reverse}
use Rattle.own_walks.specs.Graphs.{ends_out}
use Rattle.own_walks.specs.Building.{built, chained}
use Rattle.own_graph.proofs.nodes.push_out.Given as goal

abbrev pub invariant-loop-scope : goal.invariant-loop-scope
invariant-loop-scope l = chained (ends_out l.span (reverse (drop l.scope-index l.scopes))) (built l.nodes.items l.at) ≡ chained (ends_out l.span (reverse l.scopes)) (built l.fn.nodes.items l.next)
