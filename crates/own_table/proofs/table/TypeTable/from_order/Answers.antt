use Rattle.std.proofs.Common.{length, sym, ap, ◌∙◌, subst}
use Rattle.own_table.specs.Extents.{first_over_M8}
use Rattle.own_table.specs.Measures.{AreMeasures}
use Rattle.own_shapes.specs.Types.{NoneContainsItself}
use Rattle.own_table.proofs.Extended.{all_within}
use Rattle.own_table.proofs.FewLeaves.{are_within}
use Rattle.own_table.proofs.Settled.{order_apart}
use Rattle.own_table.proofs.table.TypeTable.from_order.Goals as goal

pub first_over-requires-clause-apart : goal.first_over-requires-clause-apart
first_over-requires-clause-apart c = subst NoneContainsItself (sym c.as_slice-2.ensures) (order_apart c.args.types c.args.order.now c.requires.order)

pub returns-in-Some-clause-err : goal.returns-in-Some-clause-err
returns-in-Some-clause-err c = ap first_over_M8 (sym c.as_slice-2.ensures) ∙ sym c.first_over.ensures ∙ c.in-Some.is

pub measures-requires-clause-within : goal.measures-requires-clause-within
measures-requires-clause-within c = ap first_over_M8 (c.as_slice-4.ensures ∙ sym c.as_slice-2.ensures) ∙ sym c.first_over.ensures ∙ c.in_default.is

pub invariant_of-result : goal.invariant_of-result
invariant_of-result c =
    let ts = c.args.types in let order = c.args.order.now in
    let none = ap first_over_M8 (sym c.as_slice-2.ensures) ∙ sym c.first_over.ensures ∙ c.in_default.is in
    record {
      few = c.requires.few_types;
      closed = c.requires.closed;
      few_parts = c.requires.few_parts;
      proper = c.requires.proper;
      apart = order_apart ts order c.requires.order;
      within = are_within ts c.requires.closed order c.requires.order (all_within ts none order c.requires.order);
      counted = c.in_ok-measures.ensures.each ∙ ap (λ xs. length xs) c.as_slice-4.ensures;
      measured = subst (λ xs. AreMeasures xs c.in_ok-measures.measures) c.as_slice-4.ensures c.in_ok-measures.ensures.measured;
    }
