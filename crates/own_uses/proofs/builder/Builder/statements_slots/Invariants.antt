use Rattle.std.proofs.Common.{◌≡◌, ◌≤◌, ◌+◌, ◌-◌, ◌^◌, drop}
use Rattle.own_paths.specs.BodyLimits.{stms_slots}
use Rattle.own_within.specs.View.{stms_seen}
use Rattle.own_uses.specs.Building.{types_for, program_for}
use Rattle.own_uses.specs.Saturating.{held}
use Rattle.own_uses.proofs.builder.Builder.statements_slots.Given as goal

abbrev pub invariant-loop-statement : goal.invariant-loop-statement
invariant-loop-statement l = record {
  fits : l.sum ≤ 2 ^ 64 - 1;
  sum : held (l.sum + stms_slots (types_for l.self) (program_for l.self) (stms_seen (drop l.statement-index l.statements)))
      ≡ held (stms_slots (types_for l.self) (program_for l.self) (stms_seen l.statements));
}
