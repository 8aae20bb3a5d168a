use Rattle.std.proofs.Common.{◌≡◌, ◌≤◌, ◌+◌, ◌-◌, ◌^◌, drop}
use Rattle.own_uses.specs.Building.{types_for}
use Rattle.own_uses.specs.Leaves.{leaf_counts}
use Rattle.own_uses.specs.Saturating.{held}
use Rattle.own_uses.proofs.builder.Builder.body_leaves.Given as goal

abbrev pub invariant-loop-binding : goal.invariant-loop-binding
invariant-loop-binding l = record {
  fits : l.sum ≤ 2 ^ 64 - 1;
  sum : held (l.sum + leaf_counts (types_for l.self) l.fn.number (drop l.binding-index l.bindings)) ≡ held (leaf_counts (types_for l.self) l.fn.number l.bindings);
}
