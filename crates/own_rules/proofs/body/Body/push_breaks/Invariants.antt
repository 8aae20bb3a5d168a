use Rattle.std.proofs.Common.{ℕ, ◌<◌}
use Rattle.own_breaks.specs.Settling.{Gathers}
use Rattle.own_rules.specs.Bodies.{IsBreakWith}
use Rattle.own_rules.proofs.body.Body.push_breaks.Given as goal

abbrev pub invariant-leaves : goal.invariant-leaves
invariant-leaves l = Gathers (λ f. (j : ℕ) × (j < l.leaf) × IsBreakWith l.self l.rule l.node l.op j f) l.initial.found.items l.found.items
