use Rattle.std.proofs.Common.{◌≡◌, drop}
use Rattle.own_judged.specs.Signatures.{signatures_after}
use Rattle.own_scope.specs.TypeNames.{written_in}
use Rattle.own_scope.proofs.signatures.note_parameters.Given as goal

abbrev pub invariant-loop-parameter : goal.invariant-loop-parameter
invariant-loop-parameter l =
    signatures_after (written_in l.fn.types.names.items) l.signatures (drop l.parameter-index l.parameters)
    ≡ signatures_after (written_in l.fn.types.names.items) l.fn.signatures l.parameters
