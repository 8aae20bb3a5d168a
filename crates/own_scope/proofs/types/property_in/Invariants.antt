use Rattle.std.proofs.Common.{◌≡◌, drop}
use Rattle.own_judged.specs.Names.{property_from}
use Rattle.own_scope.proofs.types.property_in.Given as goal

abbrev pub invariant-loop-number : goal.invariant-loop-number
invariant-loop-number l = property_from l.number (drop l.number l.fields) l.name ≡ property_from 0 l.fields l.name
