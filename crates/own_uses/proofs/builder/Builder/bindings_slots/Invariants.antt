use Rattle.std.proofs.Common.{◌≡◌, ◌≤◌, ◌+◌, ◌-◌, ◌^◌, drop}
use Rattle.own_paths.specs.BodyLimits.{bindings_slots}
use Rattle.own_uses.specs.Building.{types_for, program_for}
use Rattle.own_uses.specs.Saturating.{held}
use Rattle.own_uses.proofs.builder.Builder.bindings_slots.Given as goal

abbrev pub invariant-loop-binding : goal.invariant-loop-binding
invariant-loop-binding l = record {
  fits : l.sum ≤ 2 ^ 64 - 1;
  sum : held (l.sum + bindings_slots (types_for l.self) (program_for l.self) l.fn.number (drop l.binding-index l.bindings))
      ≡ held (bindings_slots (types_for l.self) (program_for l.self) l.fn.number l.bindings);
}
