use Rattle.std.proofs.Common.{length}
use Rattle.own_expr.proofs.Names.{NamesOn}
use Rattle.own_expr.proofs.paths.names_at.Given as goal

abbrev pub invariant-loop-found : goal.invariant-loop-found
invariant-loop-found l = NamesOn l.fn.rest l.found l.left

abbrev pub decreases-loop-found : goal.decreases-loop-found
decreases-loop-found l = length l.left
