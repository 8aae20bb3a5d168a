use Rattle.std.proofs.Common.{◌≡◌, None, get_or, map, sym, ap, ◌∙◌, subst}
use Rattle.std.proofs.lemmas.Result.{IfOk-weaker}
use Rattle.own_tree.specs.TypedView.{block_view, program_view}
use Rattle.own_tree.specs.declared.typed.Body.{Body}
use Rattle.own_tree.specs.TypedSource.{TBody}
use Rattle.own_table.specs.Table.{types_in}
use Rattle.own_paths.specs.Findings.{AreFixedFindings}
use Rattle.own_excl.specs.Found.{block_found}
use Rattle.own_excl.specs.Order.{kept_after, AreFixedFindingsIn}
use Rattle.own_excl.specs.View.{break_view, breaks_view}
use Rattle.own_excl.proofs.Kept.{body_there, findings_are}
use Rattle.own_excl.proofs.findings.fixed_findings.Goals as goal

pub returns : goal.returns
returns c =
    let typed = c.args.typed.now in
    let types = types_in c.args.table.now in
    let program = program_view typed in
    let k = c.args.body in
    let x = c.index-as_slice-body.result in
    let breaks = c.in_ok-breaks.breaks.items in
    let sorted = c.in_ok-sorted.sorted.items in
    IfOk-weaker c.first_of_each.result (λ row. row ≡ kept_after None (breaks_view c.as_slice-2.result.now)) (AreFixedFindingsIn types program k)
    (λ row is body at.
    let there = c.index-as_slice-body.is in
    let here = body_there typed k x body c.requires (there ∙ ap (λ bs. get_or bs k x) c.as_slice.ensures) at in
    let read : map break_view breaks ≡ block_found types program k (block_view (get_or c.as_slice.result.now k x).block) = c.in_ok-breaks.ensures in
    let seen : block_found types program k (block_view (get_or c.as_slice.result.now k x).block) ≡ block_found types program k body.block =
    sym (ap (λ (y : Body). block_found types program k (block_view y.block)) there) ∙ ap (λ (b : TBody). block_found types program k b.block) here in
    subst (AreFixedFindings types program k body) (sym (is ∙ ap (λ bs. kept_after None (breaks_view bs)) c.as_slice-2.ensures.value))
    (findings_are types program k body breaks sorted (read ∙ seen) c.in_ok-sorted.ensures.moved c.in_ok-sorted.ensures.ordered)) c.first_of_each.ensures
