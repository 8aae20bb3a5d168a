use Rattle.std.proofs.Common.{ℕ, ◌<◌, arith}
use Rattle.own_breaks.proofs.Gathering.{gathers_none, gathers_more}
use Rattle.own_rules.specs.Bodies.{IsLackWith}
use Rattle.own_rules.proofs.Growing.{all_lacks}
use Rattle.own_rules.proofs.body.Body.push_lacks.Goals as goal

pub leaves-init : goal.leaves-init
leaves-init c =
    gathers_none (λ f. (j : ℕ) × (j < 0) × IsLackWith c.args.self.now c.args.rule c.args.node c.args.at j f) c.args.found.now.items (λ f h. omega (arith, h.1))

pub leaves-preserved : goal.leaves-preserved
leaves-preserved c =
    gathers_more (λ j f. IsLackWith c.args.self.now c.args.rule c.args.node c.args.at j f) c.leaves.leaf c.args.found.now.items c.leaves.found.items c.push_lack.new.found.items
    c.leaves.invariant c.in_ok-push_lack.ensures

pub returns : goal.returns
returns c = all_lacks c.args.self.now c.args.rule c.args.node c.args.at c.leaves.leaf c.args.found.now.items c.leaves.found.items c.leaves-test.false c.leaves.invariant
