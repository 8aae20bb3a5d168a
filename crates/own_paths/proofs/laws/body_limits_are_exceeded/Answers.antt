use Rattle.own_paths.proofs.Exceeded.{body_limits_are_exceeded}
use Rattle.own_paths.proofs.laws.body_limits_are_exceeded.Goals as goal

pub returns : goal.returns
returns c = body_limits_are_exceeded
