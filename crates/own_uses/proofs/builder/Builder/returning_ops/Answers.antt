use Rattle.std.proofs.Common.{◌≡◌, true, map, sym, ap, ◌∙◌}
use Rattle.std.proofs.lemmas.Result.{IfOk-weaker}
use Rattle.own_tree.specs.OpView.{op_view}
use Rattle.own_tree.specs.TypedView.{stms_of, stmt_view, block_view}
use Rattle.own_paths.specs.Ops.{returning}
use Rattle.own_uses.specs.Building.{types_for, program_for, only_value, returned_or_block}
use Rattle.own_uses.proofs.BodyLaws.{block_value}
use Rattle.own_uses.proofs.builder.Builder.returning_ops.Goals as goal

pub returns-then-is_value : goal.returns-then-is_value
returns-then-is_value c =
    let types = types_for c.args.self.now in
    let program = program_for c.args.self.now in
    let b = c.args.block.now in
    IfOk-weaker c.result_ops.result (λ tree. op_view tree ≡ returned_or_block types program (block_view b) (only_value (stms_of (map stmt_view b.statements))))
    (λ tree. op_view tree ≡ returning types program c.args.is_value (block_view b))
    (λ tree is. is ∙ block_value types program b ∙ ap (λ v. returning types program v (block_view b)) (sym c.if-is_value.true)) c.result_ops.ensures
