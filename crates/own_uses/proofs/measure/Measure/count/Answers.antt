use Rattle.std.proofs.Common.{ap, ◌∙◌}
use Rattle.own_tree.specs.OpView.{op_view}
use Rattle.own_uses.specs.declared.tally.Tally.{Tally}
use Rattle.own_uses.specs.Tally.{of_op, of_end}
use Rattle.own_uses.proofs.TallyLaws.{sum_is}
use Rattle.own_uses.proofs.measure.Measure.count.Goals as goal

pub returns : goal.returns
returns c = ap (λ (t : Tally). t.sum) c.tally.ensures ∙ sum_is (of_op c.args.self.now) (of_end c.args.self.now) (op_view c.args.tree.now)
