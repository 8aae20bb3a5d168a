use Rattle.std.proofs.Common.{length}
use Rattle.own_expr.proofs.Fields.{FieldsOn}
use Rattle.own_expr.proofs.paths.fields_of.Given as goal

abbrev pub invariant-loop-alloc : goal.invariant-loop-alloc
invariant-loop-alloc l = FieldsOn l.fn.rest l.found l.left

abbrev pub decreases-loop-alloc : goal.decreases-loop-alloc
decreases-loop-alloc l = length l.left
