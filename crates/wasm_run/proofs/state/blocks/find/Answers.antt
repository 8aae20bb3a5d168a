use Rattle.std.proofs.Common.{◌≡◌, suc, ◌-◌, ap, ◌∙◌, Some, arith}
use Rattle.wasm_run.proofs.Find.{found, at_frame, moves, pass_none, pass_some}
use Rattle.wasm_run.proofs.state.blocks.find.Goals as goal

pub returns-then-layer-clause-some : goal.returns-then-layer-clause-some
returns-then-layer-clause-some c = found _ _ _ _ _ _ c.index-layers-at.result (rw c.in-None.is at c.loop-at.invariant) c.loop-at-test.true c.index-layers-at.is (at_frame c.index-layers-at.result c.if-layer.true)

pub loop-at-preserved-else-layer : goal.loop-at-preserved-else-layer
loop-at-preserved-else-layer c = moves _ _ _ _ _ _ _ c.index-layers-at.result c.loop-at.invariant c.loop-at-test.true c.index-layers-at.is (λ vs ls r. rw c.in-None.is (pass_none c.index-layers-at.result c.if-layer.false vs ls r)) c.if-layer.false

pub loop-at-preserved : goal.loop-at-preserved
loop-at-preserved c =
    let k : c.in-Some.more ≡ suc (c.in-Some.more - 1) = omega (arith, c.if-more-eq0.false) in
    moves _ _ _ _ _ _ _ c.index-layers-at.result c.loop-at.invariant c.loop-at-test.true c.index-layers-at.is (pass_some c.index-layers-at.result c.loop-at.left (c.in-Some.more - 1) c.if-layer-2.false (c.in-Some.is ∙ ap Some k)) c.if-layer-2.false
