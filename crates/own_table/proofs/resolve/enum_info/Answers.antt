use Rattle.std.proofs.Common.{true, map, sym, ap, ◌∙◌}
use Rattle.std.specs.List.{list_any}
use Rattle.own_tree.specs.View.{enum_member_view}
use Rattle.own_survey.specs.Names.{type_in}
use Rattle.own_table.specs.Resolving.{is_deinitializer, member_cases}
use Rattle.own_shapes.specs.Types.{fields_of, cases_of, has_deinit, resolved_field, resolved_case}
use Rattle.own_table.proofs.Resolved.{has_deinit_any, same_info, enum_fields}
use Rattle.own_table.proofs.resolve.enum_info.Goals as goal

pub returns : goal.returns
returns c =
    let by = type_in c.args.names.now in let tree = c.args.tree.now in let ms = map enum_member_view tree.members in
    same_info true tree.noncopyable c.in_ok-from_slice.field-0 tree.name.text c.enum_has_deinit.result (has_deinit ms) c.new.result (map (resolved_field by) (fields_of ms)) c.in_ok-enum_cases.field-0 (map (resolved_case by) (cases_of ms))
    (c.in_ok-from_slice.ensures ∙ c.as_slice.ensures)
    (c.enum_has_deinit.ensures ∙ ap (λ xs. list_any is_deinitializer (map enum_member_view xs)) c.as_slice-members.ensures ∙ sym (has_deinit_any ms))
    (c.new.ensures ∙ sym (ap (map (resolved_field by)) (enum_fields tree.members)))
    (c.in_ok-enum_cases.ensures ∙ ap (λ xs. member_cases by (map enum_member_view xs)) c.as_slice-members.ensures)
