use Rattle.std.proofs.Common.{ap, ◌∙◌, arith}
use Rattle.own_paths.specs.Traces.{ends_at}
use Rattle.own_walks.specs.Building.{built, chained}
use Rattle.own_graph.proofs.LayLaws.{scopes_more}
use Rattle.own_graph.proofs.nodes.push_out.Goals as goal

pub loop-scope-preserved : goal.loop-scope-preserved
loop-scope-preserved c =
    scopes_more c.args.span c.args.scopes.now c.loop-scope.scope-index c.scope-item.result (built c.loop-scope.nodes.items c.loop-scope.at) (built c.push_ends.new.nodes.items c.in_ok-at.at) (omega arith)
    (c.in_ok-at.ensures ∙ ap (λ l. chained (ends_at c.args.span l) (built c.loop-scope.nodes.items c.loop-scope.at)) (c.as_slice.ensures ∙ c.scope-item.is))
    ∙ c.loop-scope.invariant
