use Rattle.std.proofs.Common.{◌≡◌, ◌≤◌, ◌+◌, ◌-◌, ◌^◌, drop}
use Rattle.own_paths.specs.BodyLimits.{exps_slots}
use Rattle.own_within.specs.View.{exps_seen}
use Rattle.own_uses.specs.Building.{types_for, program_for}
use Rattle.own_uses.specs.Saturating.{held}
use Rattle.own_uses.proofs.builder.Builder.expressions_slots.Given as goal

abbrev pub invariant-loop-expr : goal.invariant-loop-expr
invariant-loop-expr l = record {
  fits : l.sum ≤ 2 ^ 64 - 1;
  sum : held (l.sum + exps_slots (types_for l.self) (program_for l.self) (exps_seen (drop l.expr-index l.exprs)))
      ≡ held (exps_slots (types_for l.self) (program_for l.self) (exps_seen l.exprs));
}
