use Rattle.std.proofs.Common.{◌≡◌, ◌∙◌, Some, map}
use Rattle.own_tree.specs.TypedView.{pats_of, pattern_view}
use Rattle.own_match.specs.View.{forms_held}
use Rattle.own_match.specs.Search.{gathered}
use Rattle.own_match.proofs.Columns.{gathered_forms, on_ok}
use Rattle.own_match.proofs.found.gather.Goals as goal

pub returns : goal.returns
returns c =
    on_ok _ (λ gap. forms_held gap ≡ gathered c.args.case c.args.count (Some (pats_of (map pattern_view c.args.forms.items))))
    (λ gap h. h ∙ gathered_forms c.args.case c.args.count c.args.forms.items c.from_vec.result c.in_ok-rest.rest.items (c.from_vec.ensures ∙ c.in_ok-rest.ensures.items) c.in_ok-rest.ensures.tail)
    c.put_first.result c.put_first.ensures
