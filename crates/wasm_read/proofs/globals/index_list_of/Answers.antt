use Rattle.std.proofs.Common.{[]}
use Rattle.std.proofs.lemmas.Result.{err_from_is_err_and}
use Rattle.wasm_read.specs.Reading.{list_at, index_at}
use Rattle.wasm_read.proofs.Loops.{goes_on, fails, ends}
use Rattle.wasm_read.proofs.globals.index_list_of.Goals as goal

pub returns-in_err-index : goal.returns-in_err-index
returns-in_err-index c =
    let p = err_from_is_err_and c.from_residual-in_err-index.result c.from_residual-in_err-index.ensures.1 in
    rw (p.1, p.2) (fails c.in_err-index.field-0.0 (λ _. index_at c.args.limit) c.loop.indices.items c.args.count c.loop.counter c.loop.rest.now (list_at (λ _. index_at c.args.limit) [] c.args.count c.args.bytes.now) c.loop-test.true c.in_err-index.ensures c.loop.invariant)

pub loop-preserved : goal.loop-preserved
loop-preserved c =
    rw c.in_ok-push.ensures.items (goes_on (λ _. index_at c.args.limit) c.loop.indices.items c.args.count c.loop.counter c.loop.rest.now c.in_ok-index.index c.in_ok-index.after.now (list_at (λ _. index_at c.args.limit) [] c.args.count c.args.bytes.now) c.loop-test.true c.in_ok-index.ensures c.loop.invariant)

pub returns : goal.returns
returns c = rw c.from_vec.ensures (ends (λ _. index_at c.args.limit) c.loop.indices.items c.args.count c.loop.counter c.loop.rest.now (list_at (λ _. index_at c.args.limit) [] c.args.count c.args.bytes.now) c.loop-test.false c.loop.invariant)
