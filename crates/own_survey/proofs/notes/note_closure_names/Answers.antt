use Rattle.std.proofs.Common.{add-one, refl, ◌∙◌}
use Rattle.own_survey.proofs.Walked.{next_written}
use Rattle.own_survey.proofs.notes.note_closure_names.Goals as goal

pub loop-written_name-preserved : goal.loop-written_name-preserved
loop-written_name-preserved c =
    let next = next_written c.args.written.now c.loop-written_name.written_name-index c.written_name-item.result c.loop-written_name-test.true c.written_name-item.is in
    rw (add-one, next) (c.in_ok-push_written.ensures ∙ rw c.loop-written_name.invariant refl)
