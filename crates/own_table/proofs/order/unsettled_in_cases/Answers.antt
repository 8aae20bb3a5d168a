use Rattle.std.proofs.Common.{◌+◌, drop, ap, sym, ◌∙◌}
use Rattle.own_table.specs.Order.{first_of, first_unsettled}
use Rattle.own_shapes.specs.Types.{all_case_types}
use Rattle.own_table.proofs.Settled.{first_in_cases}
use Rattle.own_table.proofs.order.unsettled_in_cases.Goals as goal

pub returns-in-Some : goal.returns-in-Some
returns-in-Some c =
    let m = c.args.marks.now in
    let rest = first_unsettled m (all_case_types (drop (c.loop-case.case-index + 1) c.args.cases.now)) in
    sym (sym c.loop-case.invariant
    ∙ first_in_cases m c.args.cases.now c.loop-case.case-index c.case-item.result c.loop-case-test.true c.case-item.is
    ∙ ap (λ o. first_of o rest) (sym (c.in-Some.ensures ∙ ap (first_unsettled m) c.as_slice.ensures)))

pub loop-case-preserved : goal.loop-case-preserved
loop-case-preserved c =
    let m = c.args.marks.now in
    let rest = first_unsettled m (all_case_types (drop (c.loop-case.case-index + 1) c.args.cases.now)) in
    sym (sym c.loop-case.invariant
    ∙ first_in_cases m c.args.cases.now c.loop-case.case-index c.case-item.result c.loop-case-test.true c.case-item.is
    ∙ ap (λ o. first_of o rest) (sym (c.in_default.ensures ∙ ap (first_unsettled m) c.as_slice.ensures)))
