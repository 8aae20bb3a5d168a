use Rattle.std.proofs.Common.{◌≡◌, ◌≤◌, ◌+◌, ◌-◌, ◌^◌, length, map}
use Rattle.own_tree.specs.TypedView.{exps_of, expr_view}
use Rattle.own_paths.specs.BodyLimits.{waiting_slots}
use Rattle.own_uses.specs.Building.{types_for, program_for}
use Rattle.own_uses.specs.Saturating.{held}
use Rattle.own_uses.proofs.builder.Builder.waiting_slots.Given as goal

abbrev pub invariant-loop-argument : goal.invariant-loop-argument
invariant-loop-argument l = record {
  fits : l.sum ≤ 2 ^ 64 - 1;
  sum : held (l.sum + waiting_slots (types_for l.self) (program_for l.self) (exps_of (map expr_view l.left)) l.passings)
      ≡ held (waiting_slots (types_for l.self) (program_for l.self) (exps_of (map expr_view l.fn.arguments)) l.fn.passings);
}

abbrev pub decreases-loop-argument : goal.decreases-loop-argument
decreases-loop-argument l = length l.left
