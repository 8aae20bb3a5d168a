use Rattle.std.proofs.Common.{ℕ}
use Rattle.std.proofs.lemmas.List.{at_drop_all}
use Rattle.own_uses.specs.Tally.{of_end, of_ends}
use Rattle.own_uses.proofs.TallyLaws.{held_done}
use Rattle.own_uses.proofs.measure.Measure.of_ends.Goals as goal

pub returns : goal.returns
returns c =
    let i : ℕ = c.loop-binding.binding-index in
    held_done c.loop-binding.sum _ _ c.loop-binding.invariant.fits (at_drop_all (of_ends (of_end c.args.self.now)) c.args.bindings.now i c.loop-binding-test.false) c.loop-binding.invariant.sum
