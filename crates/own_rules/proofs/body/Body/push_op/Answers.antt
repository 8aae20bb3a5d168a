use Rattle.std.proofs.Common.{◌⊎◌, sym, subst}
use Rattle.own_tree.specs.declared.finding.Rule.TheVariants as rule
use Rattle.own_breaks.specs.Settling.{Gathers}
use Rattle.own_breaks.proofs.Gathering.{gathers_on}
use Rattle.own_rules.specs.Bodies.{BreaksOf, OpBreaks}
use Rattle.own_rules.proofs.Growing.{op_breaks}
use Rattle.own_rules.proofs.body.Body.push_op.Goals as goal

pub returns : goal.returns
returns c =
    let b = c.args.self.now in let u = c.args.node in let o = c.in-Some.op in
    let x0 = c.args.found.now.items in let x1 = c.push_breaks.new.found.items in let x2 = c.push_breaks-2.new.found.items in
    let x3 = c.push_breaks-3.new.found.items in let x4 = c.push_breaks-4.new.found.items in
    let two = gathers_on (BreaksOf b rule.O1 u o) (BreaksOf b rule.O2 u o) x0 x1 x2 c.in_ok-push_breaks.ensures c.in_ok-push_breaks-2.ensures in
    let three = gathers_on (λ f. BreaksOf b rule.O1 u o f ⊎ BreaksOf b rule.O2 u o f) (BreaksOf b rule.O4 u o) x0 x2 x3 two c.in_ok-push_breaks-3.ensures in
    let four = gathers_on (λ f. (BreaksOf b rule.O1 u o f ⊎ BreaksOf b rule.O2 u o f) ⊎ BreaksOf b rule.O4 u o f) (BreaksOf b rule.O6 u o) x0 x3 x4 three c.in_ok-push_breaks-4.ensures in
    subst (λ op. Gathers (OpBreaks b u op) x0 x4) (sym c.in-Some.is) (op_breaks b u o x0 x4 four)
