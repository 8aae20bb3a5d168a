use Rattle.std.proofs.Common.{◌≡◌, slice_get, Some, None, sym, ap, ◌∙◌}
use Rattle.std.specs.Option.{option_copied}
use Rattle.std.proofs.lemmas.Result.{IfOk-weaker}
use Rattle.own_tree.specs.TypedView.{program_view}
use Rattle.own_paths.specs.Captures.{declared_elsewhere, outer_mentions}
use Rattle.own_within.specs.View.{captured_seen}
use Rattle.own_within.proofs.Elsewhere.{outer_at, outer_none}
use Rattle.own_within.proofs.outer.+outer.Goals as goal

pub outer_mentions-returns-in_ok-mentions-in-Some : goal.outer_mentions-returns-in_ok-mentions-in-Some
outer_mentions-returns-in_ok-mentions-in-Some t c =
    let typed = c.args.typed.now in
    let number = c.args.number in
    let body = c.in-Some.body.now in
    let at : slice_get typed.bodies number ≡ Some body = sym c.get.ensures.value ∙ ap option_copied c.in-Some.is in
    IfOk-weaker c.declared_elsewhere.result (λ outer. captured_seen outer.items ≡ declared_elsewhere typed.bindings number (captured_seen c.as_slice.result.now))
    (λ outer. captured_seen outer.items ≡ outer_mentions (program_view typed) c.args.depth number)
    (λ outer is. is
    ∙ ap (declared_elsewhere typed.bindings number) (ap captured_seen c.as_slice.ensures.value ∙ c.in_ok-mentions-in-Some.ensures)
    ∙ sym (outer_at typed c.args.depth number body c.if-depth-eq0.false at)) c.declared_elsewhere.ensures

pub outer_mentions-returns-in-None : goal.outer_mentions-returns-in-None
outer_mentions-returns-in-None t c =
    let typed = c.args.typed.now in
    let at : slice_get typed.bodies c.args.number ≡ None = sym c.get.ensures.value ∙ ap option_copied c.in-None.is in
    ap captured_seen c.new-in-None.ensures.items ∙ sym (outer_none typed c.args.depth c.args.number at)
