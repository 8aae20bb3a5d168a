use Rattle.std.proofs.Common.{◌≡◌, ℕ, ◌<◌, None, get_or, length, sym, ap, ◌∙◌}
use Rattle.std.proofs.lemmas.Result.{IfOk-weaker}
use Rattle.own_tree.specs.TypedView.{program_view}
use Rattle.own_paths.specs.Captures.{captures}
use Rattle.own_within.specs.Marks.{said, found_from}
use Rattle.own_within.specs.View.{captured_seen}
use Rattle.own_within.proofs.Marked.{captured_by}
use Rattle.own_within.proofs.capturing.captures.Goals as goal

pub returns : goal.returns
returns c =
    let typed = c.args.typed.now in
    let ms = c.as_slice.result.now in
    let seen = c.in_ok-seen.seen.items in
    IfOk-weaker c.found.result (λ row. captured_seen row ≡ found_from 0 c.as_slice-2.result.now) (λ row. captured_seen row ≡ captures (program_view typed) c.args.body)
    (λ row is. is ∙ ap (found_from 0) c.as_slice-2.ensures.value
    ∙ captured_by typed c.args.body ms seen c.len.result c.len-2.result c.len.ensures c.len-2.ensures
    (ap captured_seen c.as_slice.ensures.value ∙ c.in_ok-mentions.ensures) c.in_ok-seen.ensures.each c.in_ok-seen.ensures.said) c.found.ensures
