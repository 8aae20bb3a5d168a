use Rattle.std.proofs.Common.{◌≡◌, ◌++◌, drop}
use Rattle.own_paths.specs.Within.{exps_of_stms}
use Rattle.own_within.specs.View.{exps_seen, stms_seen}
use Rattle.own_within.proofs.within.expressions_of.Given as goal

abbrev pub invariant-loop-statement : goal.invariant-loop-statement
invariant-loop-statement l = exps_seen l.found.items ++ exps_of_stms (stms_seen (drop l.statement-index l.statements)) ≡ exps_of_stms (stms_seen l.statements)
