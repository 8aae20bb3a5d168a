use Rattle.std.proofs.Common.{◌∙◌}
use Rattle.own_report.proofs.Known.{at_end}
use Rattle.own_report.proofs.places.Places.at.Goals as goal

pub returns : goal.returns
returns c = c.place_after.ensures ∙ at_end c.args.self.now.text.now c.args.at c.min-end.result c.min-end.ensures
