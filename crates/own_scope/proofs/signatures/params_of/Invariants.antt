use Rattle.std.proofs.Common.{◌≡◌, map, take}
use Rattle.own_judged.specs.Signatures.{param_of}
use Rattle.own_scope.specs.TypeNames.{written_in}
use Rattle.own_scope.proofs.signatures.params_of.Given as goal

abbrev pub invariant-loop-parameter : goal.invariant-loop-parameter
invariant-loop-parameter l =
    l.params ≡ map (param_of (written_in l.fn.types.names.items) l.fn.signatures) (take l.parameter-index l.parameters)
