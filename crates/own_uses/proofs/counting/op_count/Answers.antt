use Rattle.std.proofs.Common.{ap, ◌∙◌}
use Rattle.own_tree.specs.OpView.{op_view}
use Rattle.own_uses.specs.Saturating.{held}
use Rattle.own_uses.proofs.TallyLaws.{ops_weight}
use Rattle.own_uses.proofs.counting.op_count.Goals as goal

pub returns : goal.returns
returns c = c.count.ensures ∙ ap held (ops_weight (op_view c.args.tree.now))
