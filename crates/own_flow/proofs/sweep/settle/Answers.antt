use Rattle.std.proofs.Common.{refl}
use Rattle.own_flow.proofs.FlowLaws.{settled}
use Rattle.own_flow.proofs.sweep.settle.Goals as goal

pub returns-clause-exact : goal.returns-clause-exact
returns-clause-exact c = λ pairs leaves entry t f u m.
    settled pairs leaves c.args.nodes.now entry c.sweep.new.rows.items c.sweep.new.waiting.items
    (c.sweep.ensures.flows pairs leaves entry t (c.sweeps.invariant.flows pairs leaves entry t f)) (c.sweeps-test.ensures.none refl) u m
