use Rattle.own_judged.specs.Names.{on_found}
use Rattle.own_scope.specs.Locals.{local_of}
use Rattle.own_scope.proofs.Looking.{find_next}
use Rattle.own_scope.proofs.scope.Scope.find_outside.Goals as goal

pub loop-frame-preserved : goal.loop-frame-preserved
loop-frame-preserved c =
    find_next c.args.self.now.outer.items c.deref-frame-items.result.now c.deref-frame-items.ensures.value
    c.loop-frame.frame-index c.frame-item.result (on_found local_of c.loop-frame.found) (on_found local_of c.find.result)
    (on_found local_of c.later-found.result) c.args.name.now _ c.loop-frame-test.true c.frame-item.is c.find.ensures
    c.later-found.ensures c.loop-frame.invariant
