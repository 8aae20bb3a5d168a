use Rattle.std.proofs.Common.{ℕ, get_or, ap, ◌∙◌, arith}
use Rattle.own_tree.specs.declared.op.OpKind.TheVariants as kind
use Rattle.own_walks.specs.Building.{built, pushed}
use Rattle.own_walks.specs.Graphs.{doing}
use Rattle.own_graph.proofs.LayLaws.{ends_more}
use Rattle.own_graph.proofs.nodes.push_ends.Goals as goal

pub loop-b-preserved : goal.loop-b-preserved
loop-b-preserved c =
    let b : ℕ = get_or c.args.bindings.now c.loop-b.b-index 0 in
    ends_more c.args.span c.args.bindings.now c.loop-b.b-index (built c.loop-b.nodes.items c.loop-b.at) (built c.push_op.new.nodes.items c.in_ok-at.at) (omega arith)
    (c.in_ok-at.ensures ∙ ap (λ fields. pushed (doing (record { kind = kind.End; place = record { binding = b; fields = fields }; span = c.args.span; node = 0 }) c.loop-b.at) c.loop-b.nodes.items) c.new.ensures)
    ∙ c.loop-b.invariant
