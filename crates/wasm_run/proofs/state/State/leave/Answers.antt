use Rattle.std.proofs.Common.{◌≡◌, ◌∷◌, reverse, sym, ◌∙◌, arith}
use Rattle.wasm_run.proofs.Find.{left_label, top_falls, top_split}
use Rattle.wasm_run.proofs.state.State.leave.Goals as goal

pub invariant_of-self : goal.invariant_of-self
invariant_of-self c =
    let s = c.self.inside in
    let e : reverse s.layers.items ≡ c.in-Some.top ∷ reverse c.truncate.new.self.items = top_split s.layers.items c.deref.result.now c.truncate.new.self.items c.in-Some.top c.len.result c.deref.ensures.value (c.len.ensures ∙ sym c.deref.ensures.len) c.truncate.ensures.items c.in-Some.ensures.some in
    let f = top_falls s c.in-Some.top c.truncate.new.self.items c.self.invariant e c.if-top.false in
    record {
      base = omega (arith, f.0, c.self.invariant.base);
      falls = f.1;
      locals_fall = f.2;
      locals = c.self.invariant.locals;
      depth = c.self.invariant.depth;
      few = c.self.invariant.few;
      few_values = c.self.invariant.few_values;
      room_locals = c.self.invariant.room_locals;
      room = c.self.invariant.room;
      room_layers = rw c.truncate.ensures.capacity c.self.invariant.room_layers;
    }

pub returns : goal.returns
returns c =
    let s = c.self.inside in
    let e : reverse s.layers.items ≡ c.in-Some.top ∷ reverse c.truncate.new.self.items = top_split s.layers.items c.deref.result.now c.truncate.new.self.items c.in-Some.top c.len.result c.deref.ensures.value (c.len.ensures ∙ sym c.deref.ensures.len) c.truncate.ensures.items c.in-Some.ensures.some in
    rw (← c.self.view_is) (left_label s c.in-Some.top c.truncate.new.self.items c.self.invariant e c.if-top.false)
