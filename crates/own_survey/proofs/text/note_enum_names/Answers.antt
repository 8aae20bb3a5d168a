use Rattle.std.proofs.Common.{add-one, refl, ◌∙◌}
use Rattle.own_survey.proofs.Walked.{next_enum_member}
use Rattle.own_survey.proofs.text.note_enum_names.Goals as goal

pub loop-member-preserved : goal.loop-member-preserved
loop-member-preserved c =
    let next = next_enum_member c.args.members.now c.loop-member.member-index c.member-item.result c.loop-member-test.true c.member-item.is in
    (refl, rw (add-one, next) (c.in_ok-push_enum_member.ensures ∙ rw c.loop-member.invariant.1 refl))
