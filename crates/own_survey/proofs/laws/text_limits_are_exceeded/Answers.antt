use Rattle.own_survey.proofs.Exceeded.{text_limits_are_exceeded}
use Rattle.own_survey.proofs.laws.text_limits_are_exceeded.Goals as goal

pub returns : goal.returns
returns c = text_limits_are_exceeded
