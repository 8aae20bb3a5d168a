use Rattle.std.proofs.Common.{◌≡◌, length, sym, ap, ◌∙◌}
use Rattle.std.specs.Option.{option_or}
use Rattle.own_tree.specs.declared.refusal.LimitKind.TheVariants as limit
use Rattle.own_tree.specs.OpView.{op_view}
use Rattle.own_tree.specs.TypedView.{body_view}
use Rattle.own_paths.specs.BodyLimits.{op_count, maker_count, over_M10, over_M11, over_M12}
use Rattle.own_paths.specs.Makers.{leaves_declared, uses_of}
use Rattle.own_paths.specs.Ops.{body_ops}
use Rattle.own_uses.specs.Answers.{or_else}
use Rattle.own_uses.specs.Building.{types_for, program_for}
use Rattle.own_uses.specs.Leaves.{leaf_counts}
use Rattle.own_uses.specs.Saturating.{held}
use Rattle.own_uses.proofs.LimitLaws.{or_later}
use Rattle.own_uses.proofs.LeafLaws.{leaf_counts_are}
use Rattle.own_uses.proofs.TallyLaws.{makers_weight}
use Rattle.own_uses.proofs.builder.Builder.passed_by_tree.Goals as goal

pub returns : goal.returns
returns c =
    let types = types_for c.args.self.now in
    let program = program_for c.args.self.now in
    let body = body_view c.args.body.now in
    let k = c.args.number in
    let tree = op_view c.args.tree.now in
    let uses = uses_of types program k body in
    let ops = c.passed-ops.ensures (op_count (body_ops types program body)) (c.op_count.ensures ∙ ap (λ t. held (op_count t)) c.requires) in
    let leaves = c.passed-leaves.ensures (length (leaves_declared types k 0 program.bindings))
    (c.body_leaves-leaves.ensures ∙ ap (λ bs. held (leaf_counts types k bs)) c.as_slice.ensures ∙ ap held (sym (leaf_counts_are types k 0 program.bindings))) in
    let makers = c.passed-makers.ensures (maker_count uses (body_ops types program body))
    (c.count-makers.ensures ∙ ap held (makers_weight types program k body tree) ∙ ap (λ t. held (maker_count uses t)) c.requires) in
    c.or-2.ensures ∙ ap (option_or c.passed-ops.result) c.or.ensures ∙ (λ i. option_or (ops i) (option_or (leaves i) (makers i)))
    ∙ ap (option_or _) (or_later limit.BodyLeaves (over_M11 types program k body) _) ∙ or_later limit.BodyOps (over_M10 types program k body) _
