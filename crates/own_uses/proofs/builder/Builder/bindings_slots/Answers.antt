use Rattle.std.proofs.Common.{ℕ}
use Rattle.std.proofs.lemmas.List.{at_drop_all}
use Rattle.own_uses.specs.Building.{types_for, program_for}
use Rattle.own_paths.specs.BodyLimits.{bindings_slots}
use Rattle.own_uses.proofs.TallyLaws.{held_done}
use Rattle.own_uses.proofs.builder.Builder.bindings_slots.Goals as goal

pub returns : goal.returns
returns c =
    let i : ℕ = c.loop-binding.binding-index in
    held_done c.loop-binding.sum _ _ c.loop-binding.invariant.fits (at_drop_all (bindings_slots (types_for c.args.self.now) (program_for c.args.self.now) c.args.number) c.args.bindings.now i c.loop-binding-test.false) c.loop-binding.invariant.sum
