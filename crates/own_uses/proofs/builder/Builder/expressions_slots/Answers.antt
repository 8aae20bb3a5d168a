use Rattle.std.proofs.Common.{ℕ}
use Rattle.std.proofs.lemmas.List.{at_drop_all}
use Rattle.own_uses.specs.Building.{types_for, program_for}
use Rattle.own_paths.specs.BodyLimits.{exps_slots}
use Rattle.own_within.specs.View.{exps_seen}
use Rattle.own_uses.proofs.TallyLaws.{held_done}
use Rattle.own_uses.proofs.builder.Builder.expressions_slots.Goals as goal

pub returns : goal.returns
returns c =
    let i : ℕ = c.loop-expr.expr-index in
    held_done c.loop-expr.sum _ _ c.loop-expr.invariant.fits (at_drop_all (λ es. exps_slots (types_for c.args.self.now) (program_for c.args.self.now) (exps_seen es)) c.args.exprs.now i c.loop-expr-test.false) c.loop-expr.invariant.sum
