use Rattle.std.proofs.Common.{false, map, sym, ap, ◌∙◌}
use Rattle.std.specs.List.{list_any}
use Rattle.own_tree.specs.View.{struct_member_view}
use Rattle.own_survey.specs.Names.{type_in}
use Rattle.own_table.specs.Resolving.{is_deinitializer, member_fields}
use Rattle.own_shapes.specs.Types.{fields_of, cases_of, has_deinit, resolved_field, resolved_case}
use Rattle.own_table.proofs.Resolved.{has_deinit_any, same_info, struct_cases}
use Rattle.own_table.proofs.resolve.struct_info.Goals as goal

pub returns : goal.returns
returns c =
    let by = type_in c.args.names.now in let tree = c.args.tree.now in let ms = map struct_member_view tree.members in
    same_info false tree.noncopyable c.in_ok-from_slice.field-0 tree.name.text c.struct_has_deinit.result (has_deinit ms) c.in_ok-struct_fields.field-0 (map (resolved_field by) (fields_of ms)) c.new.result (map (resolved_case by) (cases_of ms))
    (c.in_ok-from_slice.ensures ∙ c.as_slice.ensures)
    (c.struct_has_deinit.ensures ∙ ap (λ xs. list_any is_deinitializer (map struct_member_view xs)) c.as_slice-members.ensures ∙ sym (has_deinit_any ms))
    (c.in_ok-struct_fields.ensures ∙ ap (λ xs. member_fields by (map struct_member_view xs)) c.as_slice-members.ensures)
    (c.new.ensures ∙ sym (ap (map (resolved_case by)) (struct_cases tree.members)))
