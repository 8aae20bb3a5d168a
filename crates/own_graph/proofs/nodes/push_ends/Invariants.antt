use Rattle.std.proofs.Common.{◌≡◌, drop}
use Rattle.own_paths.specs.Traces.{ends_at}
use Rattle.own_walks.specs.Building.{built, chained}
use Rattle.own_graph.proofs.nodes.push_ends.Given as goal

abbrev pub invariant-loop-b : goal.invariant-loop-b
invariant-loop-b l = chained (ends_at l.span (drop l.b-index l.bindings)) (built l.nodes.items l.at) ≡ chained (ends_at l.span l.bindings) (built l.fn.nodes.items l.next)
