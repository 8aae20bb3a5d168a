use Rattle.std.proofs.Common.{[]}
use Rattle.std.proofs.lemmas.Result.{err_from_is_err_and}
use Rattle.wasm_read.specs.Entries.{code_entry_at}
use Rattle.wasm_read.specs.Reading.{list_at}
use Rattle.wasm_read.proofs.Loops.{goes_on, fails, ends}
use Rattle.wasm_read.proofs.segments.code_list_of.Goals as goal

pub returns-in_err-code : goal.returns-in_err-code
returns-in_err-code c =
    let p = err_from_is_err_and c.from_residual-in_err-code.result c.from_residual-in_err-code.ensures.1 in
    rw (p.1, p.2) (fails c.in_err-code.field-0.0 (code_entry_at c.args.types.now c.args.functions.now) c.loop.codes.items c.args.count c.loop.counter c.loop.rest.now (list_at (code_entry_at c.args.types.now c.args.functions.now) [] c.args.count c.args.bytes.now) c.loop-test.true (rw c.as_slice.ensures.value at c.in_err-code.ensures) c.loop.invariant)

pub loop-preserved : goal.loop-preserved
loop-preserved c =
    rw c.in_ok-push.ensures.items (goes_on (code_entry_at c.args.types.now c.args.functions.now) c.loop.codes.items c.args.count c.loop.counter c.loop.rest.now c.in_ok-code.code c.in_ok-code.after.now (list_at (code_entry_at c.args.types.now c.args.functions.now) [] c.args.count c.args.bytes.now) c.loop-test.true (rw c.as_slice.ensures.value at c.in_ok-code.ensures) c.loop.invariant)

pub returns : goal.returns
returns c = rw c.from_vec.ensures (ends (code_entry_at c.args.types.now c.args.functions.now) c.loop.codes.items c.args.count c.loop.counter c.loop.rest.now (list_at (code_entry_at c.args.types.now c.args.functions.now) [] c.args.count c.args.bytes.now) c.loop-test.false c.loop.invariant)
