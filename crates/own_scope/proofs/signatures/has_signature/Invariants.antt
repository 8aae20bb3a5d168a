use Rattle.std.proofs.Common.{◌≡◌, drop}
use Rattle.own_judged.specs.Signatures.{has_signature}
use Rattle.own_scope.proofs.signatures.has_signature.Given as goal

abbrev pub invariant-loop-signature : goal.invariant-loop-signature
invariant-loop-signature l = has_signature (drop l.signature-index l.signatures) l.wanted ≡ has_signature l.signatures l.wanted
