use Rattle.std.proofs.Common.{arith, length, ◌-◌, ◌∙◌}
use Rattle.own_expr.proofs.Ends.{last_statement}
use Rattle.own_expr.proofs.nodes.statements_end.Goals as goal

pub returns-in-len1-up : goal.returns-in-len1-up
returns-in-len1-up c = c.stmt_span.ensures ∙ last_statement c.args.before c.args.statements.now c.last-item.result (length c.args.statements.now - 1) (omega (arith, c.in-len1-up.len_at_least)) c.last-item.is
