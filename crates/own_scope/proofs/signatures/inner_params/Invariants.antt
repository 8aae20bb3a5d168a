use Rattle.std.proofs.Common.{◌≡◌, map, take}
use Rattle.own_judged.specs.Signatures.{inner_param}
use Rattle.own_scope.specs.TypeNames.{written_in}
use Rattle.own_scope.proofs.signatures.inner_params.Given as goal

abbrev pub invariant-loop-parameter : goal.invariant-loop-parameter
invariant-loop-parameter l =
    l.params ≡ map (inner_param (written_in l.fn.types.names.items)) (take l.parameter-index l.parameters)
