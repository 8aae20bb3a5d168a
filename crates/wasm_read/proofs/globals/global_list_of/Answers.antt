use Rattle.std.proofs.Common.{[]}
use Rattle.std.proofs.lemmas.Result.{err_from_is_err_and}
use Rattle.wasm_read.specs.Entries.{global_at}
use Rattle.wasm_read.specs.Reading.{list_at}
use Rattle.wasm_read.proofs.Loops.{goes_on, fails, ends}
use Rattle.wasm_read.proofs.globals.global_list_of.Goals as goal

pub returns-in_err-global : goal.returns-in_err-global
returns-in_err-global c =
    let p = err_from_is_err_and c.from_residual-in_err-global.result c.from_residual-in_err-global.ensures.1 in
    rw (p.1, p.2) (fails c.in_err-global.field-0.0 (λ _. global_at) c.loop.globals.items c.args.count c.loop.counter c.loop.rest.now (list_at (λ _. global_at) [] c.args.count c.args.bytes.now) c.loop-test.true c.in_err-global.ensures c.loop.invariant)

pub loop-preserved : goal.loop-preserved
loop-preserved c =
    rw c.in_ok-push.ensures.items (goes_on (λ _. global_at) c.loop.globals.items c.args.count c.loop.counter c.loop.rest.now c.in_ok-global.global c.in_ok-global.after.now (list_at (λ _. global_at) [] c.args.count c.args.bytes.now) c.loop-test.true c.in_ok-global.ensures c.loop.invariant)

pub returns : goal.returns
returns c = rw c.from_vec.ensures (ends (λ _. global_at) c.loop.globals.items c.args.count c.loop.counter c.loop.rest.now (list_at (λ _. global_at) [] c.args.count c.args.bytes.now) c.loop-test.false c.loop.invariant)
