use Rattle.std.proofs.Common.{[]}
use Rattle.std.proofs.lemmas.Result.{err_from_is_err_and}
use Rattle.wasm_read.specs.Entries.{import_at}
use Rattle.wasm_read.specs.Reading.{list_at}
use Rattle.wasm_read.proofs.Loops.{goes_on, fails, ends}
use Rattle.wasm_read.proofs.imports.import_list_of.Goals as goal

pub returns-in_err-import : goal.returns-in_err-import
returns-in_err-import c =
    let p = err_from_is_err_and c.from_residual-in_err-import.result c.from_residual-in_err-import.ensures.1 in
    rw (p.1, p.2) (fails c.in_err-import.field-0.0 (import_at c.args.types.now) c.loop.imports.items c.args.count c.loop.counter c.loop.rest.now (list_at (import_at c.args.types.now) [] c.args.count c.args.bytes.now) c.loop-test.true (rw c.as_slice.ensures.value at c.in_err-import.ensures) c.loop.invariant)

pub loop-preserved : goal.loop-preserved
loop-preserved c =
    rw c.in_ok-push.ensures.items (goes_on (import_at c.args.types.now) c.loop.imports.items c.args.count c.loop.counter c.loop.rest.now c.in_ok-import.import c.in_ok-import.after.now (list_at (import_at c.args.types.now) [] c.args.count c.args.bytes.now) c.loop-test.true (rw c.as_slice.ensures.value at c.in_ok-import.ensures) c.loop.invariant)

pub returns : goal.returns
returns c = rw c.from_vec.ensures (ends (import_at c.args.types.now) c.loop.imports.items c.args.count c.loop.counter c.loop.rest.now (list_at (import_at c.args.types.now) [] c.args.count c.args.bytes.now) c.loop-test.false c.loop.invariant)
