use Rattle.std.proofs.Common.{◌++◌, ◌∷◌, [], sym, ap, ◌∙◌}
use Rattle.own_tree.specs.View.{struct_member_view}
use Rattle.own_survey.specs.Names.{type_in}
use Rattle.own_table.specs.Resolving.{member_fields}
use Rattle.own_table.proofs.Resolved.{struct_fields_more}
use Rattle.own_table.proofs.resolve.struct_fields.Goals as goal

pub loop-member-preserved : goal.loop-member-preserved
loop-member-preserved c =
    let by = type_in c.args.names.now in
    c.in_ok-push_field.ensures
    ∙ ap (λ before. before ++ member_fields by (struct_member_view c.member-item.result ∷ [])) c.loop-member.invariant
    ∙ sym (struct_fields_more by c.args.members.now c.loop-member.member-index c.member-item.result c.loop-member-test.true c.member-item.is)
