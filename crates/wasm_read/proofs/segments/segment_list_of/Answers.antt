use Rattle.std.proofs.Common.{[]}
use Rattle.std.proofs.lemmas.Result.{err_from_is_err_and}
use Rattle.wasm_read.specs.Entries.{segment_at}
use Rattle.wasm_read.specs.Reading.{list_at}
use Rattle.wasm_read.proofs.Loops.{goes_on, fails, ends}
use Rattle.wasm_read.proofs.segments.segment_list_of.Goals as goal

pub returns-in_err-segment : goal.returns-in_err-segment
returns-in_err-segment c =
    let p = err_from_is_err_and c.from_residual-in_err-segment.result c.from_residual-in_err-segment.ensures.1 in
    rw (p.1, p.2) (fails c.in_err-segment.field-0.0 (λ _. segment_at c.args.memories.now) c.loop.segments.items c.args.count c.loop.counter c.loop.rest.now (list_at (λ _. segment_at c.args.memories.now) [] c.args.count c.args.bytes.now) c.loop-test.true c.in_err-segment.ensures c.loop.invariant)

pub loop-preserved : goal.loop-preserved
loop-preserved c =
    rw c.in_ok-push.ensures.items (goes_on (λ _. segment_at c.args.memories.now) c.loop.segments.items c.args.count c.loop.counter c.loop.rest.now c.in_ok-segment.segment c.in_ok-segment.after.now (list_at (λ _. segment_at c.args.memories.now) [] c.args.count c.args.bytes.now) c.loop-test.true c.in_ok-segment.ensures c.loop.invariant)

pub returns : goal.returns
returns c = rw c.from_vec.ensures (ends (λ _. segment_at c.args.memories.now) c.loop.segments.items c.args.count c.loop.counter c.loop.rest.now (list_at (λ _. segment_at c.args.memories.now) [] c.args.count c.args.bytes.now) c.loop-test.false c.loop.invariant)
