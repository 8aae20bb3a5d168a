use Rattle.std.proofs.Common.{◌≡◌, map, ap, ◌∙◌}
use Rattle.own_tree.specs.OpView.{op_view}
use Rattle.own_tree.specs.TypedView.{stms_of, stmt_view, expr_view}
use Rattle.own_paths.specs.Ops.{stms_ops}
use Rattle.own_uses.specs.Building.{types_for, program_for}
use Rattle.own_uses.proofs.ClauseLaws.{clause_more}
use Rattle.own_uses.proofs.builder.Builder.+statements.Goals as goal

pub clauses_ops-loop-clause-preserved : goal.clauses_ops-loop-clause-preserved
clauses_ops-loop-clause-preserved t c =
    let types = types_for c.args.self.now in
    let program = program_for c.args.self.now in
    let made : map op_view c.in_ok-parts.parts ≡ stms_ops types program (stms_of (map stmt_view c.clause-item.result.statements)) =
    c.in_ok-parts.ensures ∙ ap (λ ss. stms_ops types program (stms_of (map stmt_view ss))) c.as_slice.ensures in
    clause_more types program (expr_view c.args.subject.now) c.args.at c.loop-clause.trees c.push.new.self c.in_ok-parts.parts c.in_ok-clause_ops.field-0
    c.args.clauses.now c.loop-clause.clause-index c.clause-item.result c.loop-clause-test.true c.clause-item.is made c.in_ok-clause_ops.ensures c.in_ok-push.ensures.ok c.loop-clause.invariant
