use Rattle.std.proofs.Common.{sym, ◌∙◌}
use Rattle.own_tree.specs.TypedView.{expr_view}
use Rattle.own_terms.proofs.Chosen.{chosen_so}
use Rattle.own_terms.proofs.values.chosen.Goals as goal

pub returns : goal.returns
returns c =
    chosen_so c.args.id c.args.span (expr_view c.args.condition) (expr_view c.args.first) (expr_view c.args.second) _
    (sym c.have_one_type.ensures ∙ c.in_ok-holding.ensures.ok)
    c.in_ok-choice.ensures
