use Rattle.std.proofs.Common.{◌-◌}
use Rattle.core_body.proofs.coder.Coder.+push_cases.Given as goal

-- how many cases are left
abbrev pub decreases-push_cases : goal.decreases-push_cases
decreases-push_cases l = l.high - l.low
