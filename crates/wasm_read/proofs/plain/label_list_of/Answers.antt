use Rattle.std.proofs.Common.{[]}
use Rattle.std.proofs.lemmas.Result.{err_from_is_err_and}
use Rattle.wasm_read.specs.Reading.{list_at, u32_at}
use Rattle.wasm_read.proofs.Loops.{goes_on, fails, ends}
use Rattle.wasm_read.proofs.plain.label_list_of.Goals as goal

pub returns-in_err-label : goal.returns-in_err-label
returns-in_err-label c =
    let p = err_from_is_err_and c.from_residual-in_err-label.result c.from_residual-in_err-label.ensures.1 in
    rw (p.1, p.2) (fails c.in_err-label.field-0.0 (λ _. u32_at) c.loop.labels.items c.args.count c.loop.counter c.loop.rest.now (list_at (λ _. u32_at) [] c.args.count c.args.bytes.now) c.loop-test.true c.in_err-label.ensures.gives c.loop.invariant)

pub loop-preserved : goal.loop-preserved
loop-preserved c =
    rw c.in_ok-push.ensures.items (goes_on (λ _. u32_at) c.loop.labels.items c.args.count c.loop.counter c.loop.rest.now c.in_ok-label.label c.in_ok-label.after.now (list_at (λ _. u32_at) [] c.args.count c.args.bytes.now) c.loop-test.true c.in_ok-label.ensures.gives c.loop.invariant)

pub returns : goal.returns
returns c = rw c.from_vec.ensures (ends (λ _. u32_at) c.loop.labels.items c.args.count c.loop.counter c.loop.rest.now (list_at (λ _. u32_at) [] c.args.count c.args.bytes.now) c.loop-test.false c.loop.invariant)
