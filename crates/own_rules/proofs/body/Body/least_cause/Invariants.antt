use Rattle.std.proofs.Common.{ℕ, ◌<◌}
use Rattle.own_rules.specs.Bodies.{IsLeast}
use Rattle.own_rules.proofs.LeastCauses.{CauseBy}
use Rattle.own_rules.proofs.body.Body.least_cause.Given as goal

abbrev pub invariant-makers : goal.invariant-makers
invariant-makers l =
    IsLeast (λ s. (j : ℕ) × (j < l.k) × CauseBy l.self.nodes.now l.self.pairs.now l.self.facts.now l.rule l.node l.makers j s) l.least
