use Rattle.std.proofs.Common.{sym, subst}
use Rattle.own_tree.specs.declared.finding.Rule.TheVariants as rule
use Rattle.own_breaks.specs.Settling.{Gathers}
use Rattle.own_breaks.proofs.Gathering.{gathers_on}
use Rattle.own_rules.specs.Bodies.{LacksOf, ExitBreaks}
use Rattle.own_rules.proofs.Growing.{exit_breaks}
use Rattle.own_rules.proofs.body.Body.push_exit.Goals as goal

pub returns : goal.returns
returns c =
    let b = c.args.self.now in let u = c.args.node in let at = c.in-Some.at in
    let x0 = c.args.found.now.items in let x1 = c.push_lacks.new.found.items in let x2 = c.push_lacks-2.new.found.items in
    subst (λ exit. Gathers (ExitBreaks b u exit) x0 x2) (sym c.in-Some.is)
    (exit_breaks b u at x0 x2 (gathers_on (LacksOf b rule.O3 u at) (LacksOf b rule.O5 u at) x0 x1 x2 c.in_ok-push_lacks.ensures c.in_ok-push_lacks-2.ensures))
