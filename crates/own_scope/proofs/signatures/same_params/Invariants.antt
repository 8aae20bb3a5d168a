use Rattle.std.proofs.Common.{◌≡◌, length}
use Rattle.own_judged.specs.Signatures.{same_params}
use Rattle.own_scope.proofs.signatures.same_params.Given as goal

abbrev pub invariant-left : goal.invariant-left
invariant-left l = same_params l.left l.right ≡ same_params l.fn.a l.fn.b

abbrev pub decreases-left : goal.decreases-left
decreases-left l = length l.left
