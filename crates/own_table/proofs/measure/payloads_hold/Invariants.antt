use Rattle.std.proofs.Common.{◌≡◌, drop}
use Rattle.own_table.specs.ByParts.{one_holds}
use Rattle.own_table.proofs.measure.payloads_hold.Given as goal

abbrev pub invariant-loop-ty : goal.invariant-loop-ty
invariant-loop-ty l = one_holds l.measures (drop l.ty-index l.payloads) ≡ one_holds l.measures l.payloads
