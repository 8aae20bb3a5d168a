use Rattle.std.proofs.Common.{◌≡◌, drop}
use Rattle.own_scope.specs.TypeNames.{number_in}
use Rattle.own_scope.proofs.declared.type_number.Given as goal

abbrev pub invariant-loop-number : goal.invariant-loop-number
invariant-loop-number l = number_in l.number (drop l.number l.types.names.items) l.name ≡ number_in 0 l.types.names.items l.name
