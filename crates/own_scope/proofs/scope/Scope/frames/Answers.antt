use Rattle.std.proofs.Common.{◌≤◌, length, arith}
use Rattle.own_scope.proofs.Looking.{frames_next, frames_end}
use Rattle.own_scope.proofs.scope.Scope.frames.Goals as goal

pub loop-frame-preserved : goal.loop-frame-preserved
loop-frame-preserved c =
    frames_next c.args.self.now.outer.items c.deref-frame-items.result.now c.deref-frame-items.ensures.value
    c.loop-frame.frame-index c.frame-item.result c.loop-frame.frames.items c.push.new.self.items c.loop-frame-test.true
    c.frame-item.is c.in_ok-push.ensures.items c.loop-frame.invariant

pub returns : goal.returns
returns c =
    let past : length c.deref-frame-items.result.now ≤ c.loop-frame.frame-index = omega (arith, c.loop-frame-test.false) in
    frames_end c.args.self.now.outer.items c.deref-frame-items.result.now c.deref-frame-items.ensures.value
    c.loop-frame.frame-index _ c.loop-frame.frames.items c.push-2.new.self.items past c.in_ok-push-2.ensures.items
    c.loop-frame.invariant
