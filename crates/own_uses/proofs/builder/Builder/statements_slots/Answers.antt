use Rattle.std.proofs.Common.{ℕ}
use Rattle.std.proofs.lemmas.List.{at_drop_all}
use Rattle.own_uses.specs.Building.{types_for, program_for}
use Rattle.own_paths.specs.BodyLimits.{stms_slots}
use Rattle.own_within.specs.View.{stms_seen}
use Rattle.own_uses.proofs.TallyLaws.{held_done}
use Rattle.own_uses.proofs.builder.Builder.statements_slots.Goals as goal

pub returns : goal.returns
returns c =
    let i : ℕ = c.loop-statement.statement-index in
    held_done c.loop-statement.sum _ _ c.loop-statement.invariant.fits (at_drop_all (λ ss. stms_slots (types_for c.args.self.now) (program_for c.args.self.now) (stms_seen ss)) c.args.statements.now i c.loop-statement-test.false) c.loop-statement.invariant.sum
