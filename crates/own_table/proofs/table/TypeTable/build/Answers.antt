use Rattle.std.proofs.Common.{◌≡◌, ◌<◌, length, map, sym, ap, ◌∙◌, subst}
use Rattle.std.specs.Prelude.{slice_get, Some}
use Rattle.own_tree.specs.View.{declaration_view, tree_view}
use Rattle.own_tree.specs.declared.refusal.LimitKind.TheVariants as limit
use Rattle.own_table.specs.declared.error.TableError.TheVariants as refused
use Rattle.own_table.specs.Building.{IsRefused}
use Rattle.own_table.specs.ByParts.{IsOver}
use Rattle.own_table.specs.Extents.{first_over_M8, HaveFewParts}
use Rattle.own_survey.specs.Limits.{type_names}
use Rattle.own_table.specs.Order.{IsCircle}
use Rattle.own_table.specs.Proper.{AreProper}
use Rattle.own_shapes.specs.Types.{declared_types, resolved_types, types_resolved, types_of, types_declared, NoneContainsItself, PartsAreTypes}
use Rattle.own_table.proofs.Built.{surveyed_closed, surveyed_few, surveyed_proper, circle_named, circular_at, has_table, too_large, over_named}
use Rattle.own_table.proofs.Settled.{order_apart}
use Rattle.own_table.proofs.table.TypeTable.build.Goals as goal

pub containment_order-requires-clause-closed : goal.containment_order-requires-clause-closed
containment_order-requires-clause-closed c =
    subst PartsAreTypes (sym (c.as_slice-4.ensures ∙ c.in_ok-types.ensures ∙ ap (λ xs. resolved_types (declared_types (map declaration_view xs))) c.as_slice-declarations.ensures))
    (surveyed_closed c.args.tree.now c.in_ok-judge.ensures.ok)

pub circular-requires : goal.circular-requires
circular-requires c =
    let ds = declared_types (map declaration_view c.as_slice-declarations.result.now) in
    let types = c.as_slice-4.ensures ∙ c.in_ok-types.ensures in
    let spans = c.as_slice-in-Err-ContainsItself.ensures ∙ c.in_ok-spans.ensures.names in
    let circle = subst (IsCircle (resolved_types ds)) c.in-Err-ContainsItself.field-0-is (subst (λ ts. IsCircle ts c.in-Err-ContainsItself.field-0) types c.in-Err-ContainsItself.ensures.err) in
    subst (λ k. k < length c.as_slice-in-Err-ContainsItself.result.now) (sym c.in-Err-ContainsItself.number-is)
    (subst (λ n. c.in-Err-ContainsItself.number < n) (sym (ap length spans)) (circle_named ds circle.0 c.in-Err-ContainsItself.number circle.1))

pub returns-in-Err-ContainsItself-clause-err : goal.returns-in-Err-ContainsItself-clause-err
returns-in-Err-ContainsItself-clause-err c =
    let file = tree_view c.args.tree.now in let ds = declared_types file.declarations in
    let same = ap (λ xs. declared_types (map declaration_view xs)) c.as_slice-declarations.ensures in
    let types = c.as_slice-4.ensures ∙ c.in_ok-types.ensures ∙ ap resolved_types same in
    let spans = c.as_slice-in-Err-ContainsItself.ensures ∙ c.in_ok-spans.ensures.names ∙ ap type_names same in
    let circle = subst (IsCircle (resolved_types ds)) c.in-Err-ContainsItself.field-0-is (subst (λ ts. IsCircle ts c.in-Err-ContainsItself.field-0) types c.in-Err-ContainsItself.ensures.err) in
    let there = subst (λ k. slice_get c.as_slice-in-Err-ContainsItself.result.now k ≡ Some c.circular.result.at) c.in-Err-ContainsItself.number-is c.circular.ensures.at in
    subst (IsRefused file) (sym c.misjudged.ensures)
    (circular_at file circle.0 c.in-Err-ContainsItself.number c.circular.result c.in_ok-judge.ensures.ok circle.1 c.circular.ensures.third
    (subst (λ ss. slice_get ss c.in-Err-ContainsItself.number ≡ Some c.circular.result.at) spans there))

pub from_order-requires-clause-few_parts : goal.from_order-requires-clause-few_parts
from_order-requires-clause-few_parts c =
    subst HaveFewParts (sym (c.in_ok-types.ensures ∙ ap (λ xs. resolved_types (declared_types (map declaration_view xs))) c.as_slice-declarations.ensures))
    (surveyed_few c.args.tree.now c.in_ok-judge.ensures.ok)

pub from_order-requires-clause-closed : goal.from_order-requires-clause-closed
from_order-requires-clause-closed c =
    subst PartsAreTypes (sym (c.in_ok-types.ensures ∙ ap (λ xs. resolved_types (declared_types (map declaration_view xs))) c.as_slice-declarations.ensures))
    (surveyed_closed c.args.tree.now c.in_ok-judge.ensures.ok)

pub from_order-requires-clause-proper : goal.from_order-requires-clause-proper
from_order-requires-clause-proper c =
    subst AreProper (sym (c.in_ok-types.ensures ∙ ap (λ xs. resolved_types (declared_types (map declaration_view xs))) c.as_slice-declarations.ensures))
    (surveyed_proper c.args.tree.now c.in_ok-judge.ensures.ok)

pub returns-in-Ok-from_order-clause-ok : goal.returns-in-Ok-from_order-clause-ok
unfolding types_of types_declared
returns-in-Ok-from_order-clause-ok c =
    c.in-Ok-from_order.ensures.ok.types ∙ ap types_resolved (c.in_ok-types.ensures ∙ ap (λ xs. resolved_types (declared_types (map declaration_view xs))) c.as_slice-declarations.ensures)

pub returns-in-Ok-from_order-clause-whole : goal.returns-in-Ok-from_order-clause-whole
returns-in-Ok-from_order-clause-whole c =
    let types = c.in_ok-types.ensures ∙ ap (λ xs. resolved_types (declared_types (map declaration_view xs))) c.as_slice-declarations.ensures in
    has_table (tree_view c.args.tree.now) c.in_ok-judge.ensures.ok
    (subst NoneContainsItself (c.as_slice-4.ensures ∙ types) (order_apart c.as_slice-4.result.now c.in-Ok.order.items c.in-Ok.ensures.ok))
    (ap first_over_M8 (sym types) ∙ c.in-Ok-from_order.ensures.ok.within)

pub over_slots-passed-requires : goal.over_slots-passed-requires
over_slots-passed-requires c =
    let ds = declared_types (map declaration_view c.as_slice-declarations.result.now) in
    let spans = c.as_slice-in-Err-Over.ensures ∙ c.in_ok-spans.ensures.names in
    let over = subst (IsOver c.in_ok-types.types) c.in-Err-Over.field-0-is c.in-Err-Over.ensures.err in
    subst (λ n. c.in-Err-Over.over.number < n) (sym (ap length spans)) (over_named ds c.in-Err-Over.over (ap first_over_M8 (sym c.in_ok-types.ensures) ∙ over))

pub returns-in-Err-Over-clause-err : goal.returns-in-Err-Over-clause-err
returns-in-Err-Over-clause-err c =
    let file = tree_view c.args.tree.now in
    let same = ap (λ xs. declared_types (map declaration_view xs)) c.as_slice-declarations.ensures in
    let types = c.in_ok-types.ensures ∙ ap resolved_types same in
    let spans = c.as_slice-in-Err-Over.ensures ∙ c.in_ok-spans.ensures.names ∙ ap type_names same in
    let over = subst (IsOver c.in_ok-types.types) c.in-Err-Over.field-0-is c.in-Err-Over.ensures.err in
    let apart = subst NoneContainsItself (c.as_slice-4.ensures ∙ types) (order_apart c.as_slice-4.result.now c.in-Ok.order.items c.in-Ok.ensures.ok) in
    let there = subst (λ ss. slice_get ss c.in-Err-Over.over.number ≡ Some c.over_slots-passed.result.at) spans c.over_slots-passed.ensures.at in
    subst (IsRefused file) (sym (c.limit-in-Err-Over.ensures ∙ ap (λ n. refused.Limit limit.TypeSlots n c.over_slots-passed.result.at) c.over_slots-passed.ensures.count))
    (too_large file c.in-Err-Over.over c.over_slots-passed.result.at c.in_ok-judge.ensures.ok apart (ap first_over_M8 (sym types) ∙ over) there)
