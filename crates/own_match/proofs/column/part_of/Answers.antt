-- What the case of that number says of a payload is the part that was read.
use Rattle.std.proofs.Common.{ap, sym, ◌∙◌}
use Rattle.own_tree.specs.TypedView.{pattern_view}
use Rattle.own_match.specs.Forms.{part}
use Rattle.own_match.proofs.Columns.{part_of_case}
use Rattle.own_match.proofs.Patterns.{case_view}
use Rattle.own_match.proofs.column.part_of.Goals as goal

pub returns-in-Case : goal.returns-in-Case
returns-in-Case c =
    part_of_case c.get.result c.in-Case.parts c.args.case c.args.payload c.in-Case.present c.get.ensures.value c.if-present-case.true
    ∙ ap (part c.args.case c.args.payload) (sym (ap pattern_view c.in-Case.is ∙ case_view c.in-Case.present c.in-Case.parts))
