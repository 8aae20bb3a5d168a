use Rattle.std.proofs.Common.{◌≡◌, map, drop}
use Rattle.own_survey.specs.Names.{written_in}
use Rattle.own_tree.specs.View.{struct_member_view}
use Rattle.own_survey.specs.Parts.{struct_home}
use Rattle.own_survey.specs.TextWalks.{members_walk}
use Rattle.own_survey.proofs.declarations.walk_struct_members.Given as goal

abbrev pub invariant-loop-member : goal.invariant-loop-member
invariant-loop-member l = members_walk (written_in l.fn.names) l.home (map struct_member_view (drop l.member-index l.members)) l.survey ≡ members_walk (written_in l.fn.names) (struct_home l.fn.noncopyable) (map struct_member_view l.members) l.fn.survey
