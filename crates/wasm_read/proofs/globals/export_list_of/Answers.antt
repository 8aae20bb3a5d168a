use Rattle.std.proofs.Common.{[]}
use Rattle.std.proofs.lemmas.Result.{err_from_is_err_and}
use Rattle.wasm_read.specs.Entries.{export_at}
use Rattle.wasm_read.specs.Reading.{list_at}
use Rattle.wasm_read.proofs.Loops.{goes_on, fails, ends}
use Rattle.wasm_read.proofs.globals.export_list_of.Goals as goal

pub returns-in_err-export : goal.returns-in_err-export
returns-in_err-export c =
    let p = err_from_is_err_and c.from_residual-in_err-export.result c.from_residual-in_err-export.ensures.1 in
    rw (p.1, p.2) (fails c.in_err-export.field-0.0 (export_at c.args.counts) c.loop.exports.items c.args.count c.loop.counter c.loop.rest.now (list_at (export_at c.args.counts) [] c.args.count c.args.bytes.now) c.loop-test.true (c.in_err-export.ensures.gives c.loop.exports.items c.loop.invariant.1) c.loop.invariant.0)

pub loop-preserved : goal.loop-preserved
loop-preserved c =
    (rw c.in_ok-push.ensures.items (goes_on (export_at c.args.counts) c.loop.exports.items c.args.count c.loop.counter c.loop.rest.now c.in_ok-export.export c.in_ok-export.after.now (list_at (export_at c.args.counts) [] c.args.count c.args.bytes.now) c.loop-test.true (c.in_ok-export.ensures.gives c.loop.exports.items c.loop.invariant.1) c.loop.invariant.0), rw c.in_ok-push.ensures.items (c.in_ok-export.ensures.joins c.loop.exports.items c.loop.invariant.1))

pub returns : goal.returns
returns c = rw c.from_vec.ensures (ends (export_at c.args.counts) c.loop.exports.items c.args.count c.loop.counter c.loop.rest.now (list_at (export_at c.args.counts) [] c.args.count c.args.bytes.now) c.loop-test.false c.loop.invariant.0)
