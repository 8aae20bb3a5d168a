use Rattle.std.proofs.Common.{add-one, refl, ◌∙◌}
use Rattle.own_survey.proofs.Walked.{next_local}
use Rattle.own_survey.proofs.notes.note_locals.Goals as goal

pub loop-statement-preserved : goal.loop-statement-preserved
loop-statement-preserved c =
    let next = next_local c.args.statements.now c.loop-statement.statement-index c.statement-item.result c.loop-statement-test.true c.statement-item.is in
    (refl, rw (add-one, next) (c.in_ok-push_local.ensures ∙ rw c.loop-statement.invariant.1 refl))
