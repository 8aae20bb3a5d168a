use Rattle.std.proofs.Common.{refl, sym, ◌∙◌}
use Rattle.own_scope.proofs.Looking.{declared_more}
use Rattle.own_scope.proofs.frame.Frame.declare.Goals as goal

pub invariant_of-self-in-Ok : goal.invariant_of-self-in-Ok
invariant_of-self-in-Ok c = record {
  found = declared_more _ (λ a b. refl) c.args.self.now.last.entries c.insert.new.self.entries c.args.self.now.locals.items
      c.push.new.self.items c.in_ok-key.key _ _ c.args.self.now.found c.in-Ok.ensures.entries c.in_ok-push.ensures.items
      (c.in_ok-from_slice.ensures ∙ sym c.in_ok-key.ensures.items) refl;
}
