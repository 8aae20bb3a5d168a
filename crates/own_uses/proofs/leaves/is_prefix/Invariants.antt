use Rattle.std.proofs.Common.{◌≡◌, length}
use Rattle.own_shapes.specs.Places.{is_prefix}
use Rattle.own_uses.proofs.leaves.is_prefix.Given as goal

abbrev pub invariant-loop-field : goal.invariant-loop-field
invariant-loop-field l = is_prefix l.front l.fields ≡ is_prefix l.fn.front l.fn.fields

abbrev pub decreases-loop-field : goal.decreases-loop-field
decreases-loop-field l = length l.front
