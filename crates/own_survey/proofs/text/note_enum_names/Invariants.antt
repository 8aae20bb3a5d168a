use Rattle.std.proofs.Common.{◌≡◌, map, take}
use Rattle.own_tree.specs.View.{enum_member_view}
use Rattle.own_survey.specs.Parts.{member_names}
use Rattle.own_survey.proofs.text.note_enum_names.Given as goal

abbrev pub invariant-loop-member : goal.invariant-loop-member
invariant-loop-member l = (l.survey ≡ l.fn.survey) × (map (λ n. n.now) l.names.items ≡ member_names (map enum_member_view (take l.member-index l.members)))
