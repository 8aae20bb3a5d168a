use Rattle.std.proofs.Common.{subst, arith}
use Rattle.own_table.specs.Order.{IsSettling}
use Rattle.own_table.proofs.Settled.{at_end}
use Rattle.own_table.proofs.order.containment_order.Goals as goal

pub returns-clause-ok : goal.returns-clause-ok
returns-clause-ok c =
    at_end c.args.types.now c.loop-number.settling.marks.items c.loop-number.settling.order.items
    (subst (λ ks. IsSettling c.args.types.now c.loop-number.settling.marks.items ks c.loop-number.settling.order.items) c.loop-number.invariant.path c.loop-number.invariant.settles)
    (λ k lt. c.loop-number.invariant.reached k (omega arith))
