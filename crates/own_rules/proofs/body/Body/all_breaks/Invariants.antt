use Rattle.std.proofs.Common.{ℕ, ◌<◌, []}
use Rattle.own_breaks.specs.Settling.{Gathers}
use Rattle.own_rules.proofs.Growing.{AtNode}
use Rattle.own_rules.proofs.body.Body.all_breaks.Given as goal

abbrev pub invariant-nodes : goal.invariant-nodes
invariant-nodes l = Gathers (λ f. (j : ℕ) × (j < l.node) × AtNode l.self j f) [] l.found.items
