use Rattle.std.proofs.Common.{add-one}
use Rattle.own_survey.proofs.Walked.{pushed, next_let}
use Rattle.own_survey.proofs.notes.+let_names.Goals as goal

pub push_let_parts-loop-part-preserved : goal.push_let_parts-loop-part-preserved
push_let_parts-loop-part-preserved t c =
    rw add-one (pushed _ _ _ _ _ _ c.loop-part.invariant c.in_ok-push_let_names.ensures (next_let c.args.parts.now c.loop-part.part-index c.part-item.result c.loop-part-test.true c.part-item.is))
