use Rattle.std.proofs.Common.{◌≡◌, ◌<◌, ◌-◌, length, take, Option, None, Some, ap, ◌∙◌, arith}
use Rattle.std.specs.Prelude.{IfSome, vec_len}
use Rattle.wasm_form.specs.declared.types.Value.{Value}
use Rattle.wasm_form.specs.Steps.{operands}
use Rattle.wasm_run.specs.Views.{view_of}
use Rattle.wasm_run.proofs.Stack.{room_after_pop}
use Rattle.wasm_run.proofs.state.State.pop.Goals as goal
use Rattle.wasm_form.specs.declared.limits.TheConstants.{MOST_OPERANDS}

pub returns-clause-room : goal.returns-clause-room
returns-clause-room c =
    let s = c.self.inside in
    let n : c.len.result ≡ length s.values.items = omega (arith, c.len.ensures) in
    let lt : s.base < length s.values.items = omega (arith, n, c.if-len-self.false) in
    let v : vec_len s.values ≡ length s.values.items = omega (arith, n, c.len.ensures) in
    let e = c.pop.ensures.rest in
    let r = room_after_pop s c.pop.new.self.items c.self.invariant lt (e ∙ ap (λ k. take (k - 1) s.values.items) v) in
    elim c.pop.result as (λ (o : Option Value). IfSome o (λ x. operands (view_of (record s { values = c.pop.new.self })) < MOST_OPERANDS)) [ None ↦ tt | Some x ↦ r ]
