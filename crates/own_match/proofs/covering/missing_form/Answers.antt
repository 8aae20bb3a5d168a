use Rattle.std.proofs.Common.{ap, sym, ◌∙◌, Global}
use Rattle.own_table.specs.Table.{shape_in_table}
use Rattle.own_match.specs.View.{said_all, forms_held}
use Rattle.own_match.proofs.Final.{one_form}
use Rattle.own_match.proofs.covering.missing_form.Goals as goal

pub only_form-requires : goal.only_form-requires
only_form-requires c =
    one_form (shape_in_table c.args.table.now c.args.ty) (said_all c.in_ok-cells.cells.items) c.as_slice.result.now c.in-Some.forms.items
    (sym (ap (forms_held {Z = Global}) c.in-Some.is) ∙ c.in_ok-forms.ensures)
