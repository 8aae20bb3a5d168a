use Rattle.std.proofs.Common.{arith, length, ◌-◌}
use Rattle.own_decl.proofs.Ends.{last_item}
use Rattle.own_decl.proofs.members.items_end.Goals as goal

pub returns-in-len1-up : goal.returns-in-len1-up
returns-in-len1-up c = last_item c.args.before c.args.items.now c.last-item.result (length c.args.items.now - 1) (omega (arith, c.in-len1-up.len_at_least)) c.last-item.is
