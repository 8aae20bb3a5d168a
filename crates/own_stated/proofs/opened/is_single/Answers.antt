use Rattle.std.proofs.Common.{arith}
use Rattle.own_stated.proofs.Singles.{one_is_single, several_are_not}
use Rattle.own_stated.proofs.opened.is_single.Goals as goal

pub returns-in-len1 : goal.returns-in-len1
returns-in-len1 c =
    one_is_single c.args.ss.now (omega (arith, c.in-len1.len_at_least)) (omega (arith, c.in-len1.len_below))

pub returns-in_default-2 : goal.returns-in_default-2
returns-in_default-2 c = several_are_not c.args.ss.now (omega (arith, c.in_default.len_at_least))
