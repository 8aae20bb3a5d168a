use Rattle.std.proofs.Common.{◌∷◌, [], length, ap, arith}
use Rattle.std.proofs.lemmas.List.{length-append}
use Rattle.wasm_form.specs.Steps.{operands}
use Rattle.wasm_run.proofs.Stack.{operands_are}
use Rattle.wasm_run.proofs.state.State.give.Goals as goal

pub push_reserved-requires : goal.push_reserved-requires
push_reserved-requires c =
    let n = operands_are c.self.inside c.self.invariant in
    let e = ap operands c.self.view_is in
    let r = c.requires in
    let k = c.self.invariant.room in
    omega arith

pub invariant_of-self : goal.invariant_of-self
invariant_of-self c =
    let s = c.self.inside in
    let h = c.self.invariant in
    let n = operands_are s h in
    let e = ap operands c.self.view_is in
    let r = c.requires in
    let l = ap length c.push_reserved.ensures.items in
    let a = length-append s.values.items (c.args.value ∷ []) in
    record {
      base = omega (arith, l, a, h.base);
      falls = h.falls;
      locals_fall = h.locals_fall;
      locals = h.locals;
      depth = h.depth;
      few = h.few;
      few_values = omega (arith, l, a, n, e, r);
      room_locals = h.room_locals;
      room = rw c.push_reserved.ensures.capacity h.room;
      room_layers = h.room_layers;
    }
