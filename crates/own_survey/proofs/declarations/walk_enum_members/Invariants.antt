use Rattle.std.proofs.Common.{◌≡◌, map, drop}
use Rattle.own_survey.specs.Names.{written_in}
use Rattle.own_tree.specs.View.{enum_member_view}
use Rattle.own_survey.specs.Parts.{enum_home}
use Rattle.own_survey.specs.TextWalks.{members_walk}
use Rattle.own_survey.proofs.declarations.walk_enum_members.Given as goal

abbrev pub invariant-loop-member : goal.invariant-loop-member
invariant-loop-member l = members_walk (written_in l.fn.names) l.home (map enum_member_view (drop l.member-index l.members)) l.survey ≡ members_walk (written_in l.fn.names) (enum_home l.fn.noncopyable) (map enum_member_view l.members) l.fn.survey
