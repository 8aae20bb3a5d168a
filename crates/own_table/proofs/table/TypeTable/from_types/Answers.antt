use Rattle.std.proofs.Common.{◌≡◌, true, sym, ap, ◌∙◌, subst}
use Rattle.own_table.specs.Fitting.{are_fit}
use Rattle.own_table.specs.Order.{IsContainmentOrder}
use Rattle.own_shapes.specs.Types.{PartsAreTypes}
use Rattle.own_table.proofs.Fitted.{fit_closed, fit_proper}
use Rattle.own_table.proofs.Settled.{order_apart}
use Rattle.own_table.proofs.table.TypeTable.from_types.Goals as goal

pub containment_order-requires-clause-closed : goal.containment_order-requires-clause-closed
containment_order-requires-clause-closed c =
    let fit : are_fit c.args.types ≡ true = ap are_fit (sym c.as_slice.ensures) ∙ sym c.are_fit.ensures ∙ c.if-not-are_fit.false in
    subst PartsAreTypes (sym c.as_slice-2.ensures) (fit_closed c.args.types fit)

pub from_order-requires-clause-closed : goal.from_order-requires-clause-closed
from_order-requires-clause-closed c =
    let fit : are_fit c.args.types ≡ true = ap are_fit (sym c.as_slice.ensures) ∙ sym c.are_fit.ensures ∙ c.if-not-are_fit.false in
    fit_closed c.args.types fit

pub from_order-requires-clause-proper : goal.from_order-requires-clause-proper
from_order-requires-clause-proper c =
    let fit : are_fit c.args.types ≡ true = ap are_fit (sym c.as_slice.ensures) ∙ sym c.are_fit.ensures ∙ c.if-not-are_fit.false in
    fit_proper c.args.types fit

pub returns-in-Ok-from_order-clause-apart : goal.returns-in-Ok-from_order-clause-apart
returns-in-Ok-from_order-clause-apart c =
    order_apart c.args.types c.in-Ok.order.items (subst (λ ts. IsContainmentOrder ts c.in-Ok.order.items) c.as_slice-2.ensures c.in-Ok.ensures.ok)
