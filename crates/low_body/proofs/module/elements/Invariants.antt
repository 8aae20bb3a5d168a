use Rattle.std.proofs.Common.{◌≡◌, ◌++◌, ◌+◌, ◌-◌, ◌≤◌}
use Rattle.low_laws.specs.Lower.{numbers_from}
use Rattle.low_laws.specs.declared.places.TheConstants.{OWN}
use Rattle.low_body.proofs.module.elements.Given as goal

abbrev pub invariant-loop-number : goal.invariant-loop-number
invariant-loop-number l =
    (l.functions.items ++ numbers_from l.number (OWN + l.count - l.number) ≡ numbers_from OWN l.count)
    × (l.number ≤ OWN + l.count)
