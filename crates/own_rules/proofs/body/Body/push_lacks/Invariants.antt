use Rattle.std.proofs.Common.{ℕ, ◌<◌}
use Rattle.own_breaks.specs.Settling.{Gathers}
use Rattle.own_rules.specs.Bodies.{IsLackWith}
use Rattle.own_rules.proofs.body.Body.push_lacks.Given as goal

abbrev pub invariant-leaves : goal.invariant-leaves
invariant-leaves l = Gathers (λ f. (j : ℕ) × (j < l.leaf) × IsLackWith l.self l.rule l.node l.at j f) l.initial.found.items l.found.items
