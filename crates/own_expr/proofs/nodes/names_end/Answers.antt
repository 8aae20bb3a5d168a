use Rattle.std.proofs.Common.{arith, length, ◌-◌}
use Rattle.own_expr.proofs.Ends.{last_name}
use Rattle.own_expr.proofs.nodes.names_end.Goals as goal

pub returns-in-len1-up : goal.returns-in-len1-up
returns-in-len1-up c = last_name c.args.before c.args.names.now c.last-item.result (length c.args.names.now - 1) (omega (arith, c.in-len1-up.len_at_least)) c.last-item.is
