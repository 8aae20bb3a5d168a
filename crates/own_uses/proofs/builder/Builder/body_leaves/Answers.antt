use Rattle.std.proofs.Common.{ℕ}
use Rattle.std.proofs.lemmas.List.{at_drop_all}
use Rattle.own_uses.specs.Building.{types_for}
use Rattle.own_uses.specs.Leaves.{leaf_counts}
use Rattle.own_uses.proofs.TallyLaws.{held_done}
use Rattle.own_uses.proofs.builder.Builder.body_leaves.Goals as goal

pub returns : goal.returns
returns c =
    let i : ℕ = c.loop-binding.binding-index in
    held_done c.loop-binding.sum _ _ c.loop-binding.invariant.fits (at_drop_all (leaf_counts (types_for c.args.self.now) c.args.number) c.args.bindings.now i c.loop-binding-test.false) c.loop-binding.invariant.sum
