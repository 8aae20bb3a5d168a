use Rattle.std.proofs.Common.{length, take, reverse, None, ap, arith}
use Rattle.std.proofs.lemmas.List.{length-append, length-take}
use Rattle.wasm_run.specs.Views.{listed}
use Rattle.wasm_run.proofs.Find.{goes, goes_nowhere, at_label, at_caller, at_end, falls_label, falls_frame}
use Rattle.wasm_run.proofs.state.State.branch.Goals as goal

pub returns-in_default : goal.returns-in_default
returns-in_default c = rw (← c.self.view_is) (goes_nowhere c.self.inside c.args.past (rw c.deref.ensures.value at c.in_default.ensures.none))

pub returns-in_default-handed_on : goal.returns-in_default-handed_on
returns-in_default-handed_on c =
    rw (← c.self.view_is) (goes c.self.inside c.args.past c.in-Some.layer c.in-Some.at c.in-Some.start None (rw c.deref.ensures.value at c.in-Some.ensures.some) (rw c.deref-2.ensures.value at c.in_default-handed_on.ensures.none))

pub returns-then-at-eq0 : goal.returns-then-at-eq0
returns-then-at-eq0 c =
    rw (← c.self.view_is) (at_end c.self.inside c.args.past c.in-Some.layer c.in-Some.at c.in-Some.start c.in-Some-handed_on.handed c.self.invariant (rw c.deref.ensures.value at c.in-Some.ensures.some) (rw c.deref-2.ensures.value at c.in-Some-handed_on.ensures.some) c.if-layer.true c.if-at-eq0.true)

pub returns-then-layer : goal.returns-then-layer
returns-then-layer c =
    rw (← c.self.view_is) (at_caller c.self.inside c.args.past c.in-Some.layer c.in-Some.at c.in-Some.start c.in-Some-handed_on.handed c.self.invariant (rw c.deref.ensures.value at c.in-Some.ensures.some) (rw c.deref-2.ensures.value at c.in-Some-handed_on.ensures.some)
    _ _ _ c.if-layer.true (omega arith) c.put.ensures.items c.truncate.ensures.items c.truncate-then-layer.ensures.items)

pub returns : goal.returns
returns c =
    rw (← c.self.view_is) (at_label c.self.inside c.args.past c.in-Some.layer c.in-Some.at c.in-Some.start c.in-Some-handed_on.handed c.self.invariant (rw c.deref.ensures.value at c.in-Some.ensures.some) (rw c.deref-2.ensures.value at c.in-Some-handed_on.ensures.some)
    _ _ c.if-layer.false c.put-2.ensures.items c.truncate-2.ensures.items)

pub invariant_of-self-2 : goal.invariant_of-self-2
invariant_of-self-2 c =
    let f = rw c.deref.ensures.value at c.in-Some.ensures.some in
    let s = c.self.inside in
    let k = f.locals s.locals_base s.depth c.self.invariant.locals_fall in
    let e = ap length c.put-2.ensures.items in
    record {
      base = omega (arith, e, f.base_le, f.start_le, c.self.invariant.base, length-append (take c.in-Some.start s.values.items) (listed c.in-Some-handed_on.handed), length-take c.in-Some.start s.values.items);
      falls = rw c.truncate-2.ensures.items f.falls;
      locals_fall = rw c.truncate-2.ensures.items (falls_label c.in-Some.layer (reverse (take c.in-Some.at s.layers.items)) s.locals_base s.depth c.if-layer.false k);
      locals = c.self.invariant.locals;
      depth = c.self.invariant.depth;
      few = c.self.invariant.few;
      few_values = omega (arith, e, f.start_le, c.self.invariant.base, c.self.invariant.few_values, rw c.deref-2.ensures.value at c.in-Some-handed_on.ensures.fits, length-append (take c.in-Some.start s.values.items) (listed c.in-Some-handed_on.handed), length-take c.in-Some.start s.values.items);
      room_locals = c.self.invariant.room_locals;
      room = rw c.put-2.ensures.capacity c.self.invariant.room;
      room_layers = rw c.truncate-2.ensures.capacity c.self.invariant.room_layers;
    }

pub invariant_of-self : goal.invariant_of-self
invariant_of-self c =
    let f = rw c.deref.ensures.value at c.in-Some.ensures.some in
    let s = c.self.inside in
    let k = f.locals s.locals_base s.depth c.self.invariant.locals_fall in
    let g = falls_frame c.in-Some.layer (reverse (take c.in-Some.at s.layers.items)) s.locals_base s.depth c.if-layer.true k in
    let e = ap length c.put.ensures.items in
    let l = ap length c.truncate-then-layer.ensures.items in
    let n = length-take s.locals_base s.locals.items in
    record {
      base = omega (arith, e, f.base_le, f.start_le, c.self.invariant.base, length-append (take c.in-Some.start s.values.items) (listed c.in-Some-handed_on.handed), length-take c.in-Some.start s.values.items);
      falls = rw c.truncate.ensures.items f.falls;
      locals_fall = rw c.truncate.ensures.items k.1;
      locals = omega (arith, g.0, l, n, c.self.invariant.locals);
      depth = omega (arith, g.1, c.self.invariant.depth);
      few = omega (arith, g.2, l, n);
      few_values = omega (arith, e, f.start_le, c.self.invariant.base, c.self.invariant.few_values, rw c.deref-2.ensures.value at c.in-Some-handed_on.ensures.fits, length-append (take c.in-Some.start s.values.items) (listed c.in-Some-handed_on.handed), length-take c.in-Some.start s.values.items);
      room_locals = rw c.truncate-then-layer.ensures.capacity c.self.invariant.room_locals;
      room = rw c.put.ensures.capacity c.self.invariant.room;
      room_layers = rw c.truncate.ensures.capacity c.self.invariant.room_layers;
    }
