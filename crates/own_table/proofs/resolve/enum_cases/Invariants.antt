use Rattle.std.proofs.Common.{◌≡◌, map, take}
use Rattle.own_tree.specs.View.{enum_member_view}
use Rattle.own_survey.specs.Names.{type_in}
use Rattle.own_table.specs.Resolving.{member_cases}
use Rattle.own_table.proofs.resolve.enum_cases.Given as goal

abbrev pub invariant-loop-member : goal.invariant-loop-member
invariant-loop-member l = l.cases ≡ member_cases (type_in l.names) (map enum_member_view (take l.member-index l.members))
