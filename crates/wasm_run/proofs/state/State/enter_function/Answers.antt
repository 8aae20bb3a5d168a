use Rattle.std.proofs.Common.{◌≡◌, ◌+◌, ◌-◌, ◌++◌, ◌≤◌, true, length, drop, refl, sym, ap, arith, rules}
use Rattle.std.specs.Prelude.{IsTrue}
use Rattle.wasm_form.specs.Steps.{zeros}
use Rattle.wasm_run.proofs.Stack.{length_layers}
use Rattle.wasm_run.proofs.Call.{too_deep, enters_function}
use Rattle.wasm_run.proofs.state.State.enter_function.Goals as goal

pub push_reserved-requires : goal.push_reserved-requires
push_reserved-requires c =
    let n = length_layers c.self.inside in
    let e = ap (λ v. length v.layers) c.self.view_is in
    let r = c.requires.layers in
    let k = c.self.invariant.room_layers in
    omega arith

pub returns-then-self : goal.returns-then-self
returns-then-self c =
    let y = rw (c.deref.ensures.value, c.as_slice-params.ensures) at c.if-not-are_args.ensures.typed in
    rw (← c.self.view_is) (too_deep c.self.inside c.args.own.now c.args.function.now c.self.invariant (sym y) c.if-self.true)

pub returns : goal.returns
returns c =
    let y = rw (c.deref.ensures.value, c.as_slice-params.ensures) at c.if-not-are_args.ensures.typed in
    let k = c.if-not-are_args.ensures.enough in
    let s = c.self.inside in
    let p = c.as_slice-params.ensures in
    let d = c.deref.ensures.value in
    let n : c.len.result ≡ length s.values.items = omega arith in
    let pl : length c.as_slice-params.result.now ≡ length c.args.own.now.parameters = ap length p in
    let dl : length c.deref.result.now ≡ length s.values.items = ap length d in
    let enough : s.base + length c.args.own.now.parameters ≤ length s.values.items = let t : IsTrue true = search rules in omega (arith, k t) in
    let z : c.add_zeros.new.locals.items ≡ s.locals.items ++ drop (c.len.result - length c.as_slice-params.result.now) s.values.items ++ zeros c.args.function.now.locals =
    rw (c.add_zeros.ensures.items, c.add_args.ensures.items, c.deref-2.ensures.value, c.as_slice.ensures) refl in
    rw (← c.self.view_is) (enters_function s c.args.own.now c.args.function.now c.self.invariant (sym y) (c.len.result - length c.as_slice-params.result.now) c.len-self-inside.result c.as_slice-self-inside.result.now
    (record { after = s.code; target = s.code; base = s.base; result = c.args.own.now.result; is_frame = true; locals = s.locals_base; depth = s.depth })
    c.truncate.new.self.items c.add_zeros.new.locals.items c.push_reserved.new.self.items (omega arith) c.as_slice-self-inside.ensures c.if-self.false enough (omega arith) refl c.truncate.ensures.items c.push_reserved.ensures.items z)
