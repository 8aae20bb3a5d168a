use Rattle.std.proofs.Common.{arith, ◌∙◌}
use Rattle.own_report.proofs.PlaceSteps.{place_at-past_end}
use Rattle.own_report.proofs.place.place_in.Goals as goal

pub returns : goal.returns
returns c = c.place_of-2.ensures ∙ place_at-past_end c.args.text.now c.args.at (omega arith)
