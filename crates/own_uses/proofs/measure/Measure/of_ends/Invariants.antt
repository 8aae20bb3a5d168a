use Rattle.std.proofs.Common.{◌≡◌, ◌≤◌, ◌+◌, ◌-◌, ◌^◌, drop}
use Rattle.own_uses.specs.Saturating.{held}
use Rattle.own_uses.specs.Tally.{of_end, of_ends}
use Rattle.own_uses.proofs.measure.Measure.of_ends.Given as goal

abbrev pub invariant-loop-binding : goal.invariant-loop-binding
invariant-loop-binding l = record {
  fits : l.sum ≤ 2 ^ 64 - 1;
  sum : held (l.sum + of_ends (of_end l.self) (drop l.binding-index l.bindings)) ≡ held (of_ends (of_end l.self) l.bindings);
}
