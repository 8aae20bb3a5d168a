use Rattle.std.proofs.Common.{length, false, refl, ap, arith}
use Rattle.std.specs.Vec.{vec_len}
use Rattle.wasm_run.specs.declared.state.Layer.{Layer}
use Rattle.wasm_run.proofs.Stack.{length_layers}
use Rattle.wasm_run.proofs.Find.{enters_label, enters_falls}
use Rattle.wasm_run.proofs.state.State.enter.Goals as goal

pub push_reserved-requires : goal.push_reserved-requires
push_reserved-requires c =
    let n = length_layers c.self.inside in
    let e = ap (λ v. length v.layers) c.self.view_is in
    let r = c.requires in
    let k = c.self.invariant.room_layers in
    omega arith

pub invariant_of-self : goal.invariant_of-self
invariant_of-self c =
    let s = c.self.inside in
    let x : Layer = record { after = s.code; target = c.args.target; base = s.base; result = c.args.handed; is_frame = false; locals = s.locals_base; depth = s.depth } in
    record {
      base = omega arith;
      falls = rw (c.push_reserved.ensures.items, c.len-self-inside.ensures) (enters_falls s.layers.items x (vec_len s.values) c.self.invariant.falls (omega (arith, c.self.invariant.base)));
      locals_fall = rw c.push_reserved.ensures.items (enters_label s.layers.items x s.locals_base s.depth c.self.invariant.locals_fall refl refl refl);
      locals = c.self.invariant.locals;
      depth = c.self.invariant.depth;
      few = c.self.invariant.few;
      few_values = c.self.invariant.few_values;
      room_locals = c.self.invariant.room_locals;
      room = c.self.invariant.room;
      room_layers = rw c.push_reserved.ensures.capacity c.self.invariant.room_layers;
    }
