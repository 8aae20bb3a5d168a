use Rattle.std.proofs.Common.{◌≡◌, map, take}
use Rattle.own_tree.specs.View.{struct_member_view}
use Rattle.own_survey.specs.Names.{type_in}
use Rattle.own_table.specs.Resolving.{member_fields}
use Rattle.own_table.proofs.resolve.struct_fields.Given as goal

abbrev pub invariant-loop-member : goal.invariant-loop-member
invariant-loop-member l = l.fields ≡ member_fields (type_in l.names) (map struct_member_view (take l.member-index l.members))
