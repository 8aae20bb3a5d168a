use Rattle.std.proofs.Common.{◌≡◌, drop}
use Rattle.own_table.specs.Order.{first_unsettled}
use Rattle.own_table.proofs.order.unsettled_payload.Given as goal

abbrev pub invariant-loop-ty : goal.invariant-loop-ty
invariant-loop-ty l = first_unsettled l.marks (drop l.ty-index l.payloads) ≡ first_unsettled l.marks l.payloads
