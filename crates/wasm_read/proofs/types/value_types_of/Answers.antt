use Rattle.std.proofs.Common.{[]}
use Rattle.std.proofs.lemmas.Result.{err_from_is_err_and}
use Rattle.wasm_read.specs.Types.{value_type_at}
use Rattle.wasm_read.specs.Reading.{list_at}
use Rattle.wasm_read.proofs.Loops.{goes_on, fails, ends}
use Rattle.wasm_read.proofs.types.value_types_of.Goals as goal

pub returns-in_err-value_type : goal.returns-in_err-value_type
returns-in_err-value_type c =
    let p = err_from_is_err_and c.from_residual-in_err-value_type.result c.from_residual-in_err-value_type.ensures.1 in
    rw (p.1, p.2) (fails c.in_err-value_type.field-0.0 (λ _. value_type_at) c.loop.types.items c.args.count c.loop.counter c.loop.rest.now (list_at (λ _. value_type_at) [] c.args.count c.args.bytes.now) c.loop-test.true c.in_err-value_type.ensures c.loop.invariant)

pub loop-preserved : goal.loop-preserved
loop-preserved c =
    rw c.in_ok-push.ensures.items (goes_on (λ _. value_type_at) c.loop.types.items c.args.count c.loop.counter c.loop.rest.now c.in_ok-value_type.value_type c.in_ok-value_type.after.now (list_at (λ _. value_type_at) [] c.args.count c.args.bytes.now) c.loop-test.true c.in_ok-value_type.ensures c.loop.invariant)

pub returns : goal.returns
returns c = rw c.from_vec.ensures (ends (λ _. value_type_at) c.loop.types.items c.args.count c.loop.counter c.loop.rest.now (list_at (λ _. value_type_at) [] c.args.count c.args.bytes.now) c.loop-test.false c.loop.invariant)
