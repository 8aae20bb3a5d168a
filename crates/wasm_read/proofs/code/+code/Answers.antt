use Rattle.std.proofs.Common.{sym, ◌∙◌}
use Rattle.std.proofs.lemmas.Result.{err_from_is_err_and}
use Rattle.wasm_read.proofs.CodeLoop.{begins, goes_on, fails, ends}
use Rattle.wasm_read.proofs.code.+code.Goals as goal

pub code_of-loop-alloc-init : goal.code_of-loop-alloc-init
code_of-loop-alloc-init t c = rw c.new-code.ensures (begins c.args.labels c.args.bytes.now)

pub code_of-returns-in_err-instr-clause-gives : goal.code_of-returns-in_err-instr-clause-gives
code_of-returns-in_err-instr-clause-gives t c =
    let p = err_from_is_err_and c.from_residual.result c.from_residual.ensures.1 in
    rw (p.1, p.2) (fails c.in_err-instr.field-0.0 c.args.labels c.args.bytes.now c.loop-alloc.code c.loop-alloc.rest.now (sym c.stops.ensures ∙ c.loop-alloc-test.true) c.in_err-instr.ensures.gives c.loop-alloc.invariant)

pub code_of-loop-alloc-preserved : goal.code_of-loop-alloc-preserved
code_of-loop-alloc-preserved t c =
    let k = goes_on c.args.labels c.args.bytes.now c.loop-alloc.code c.loop-alloc.rest.now c.in_ok-instr.instr c.in_ok-instr.after.now (sym c.stops.ensures ∙ c.loop-alloc-test.true) c.in_ok-instr.ensures.gives c.in_ok-instr.ensures.shorter c.loop-alloc.invariant in
    rw c.in_ok-push.ensures.ok k

pub code_of-returns-clause-gives : goal.code_of-returns-clause-gives
code_of-returns-clause-gives t c = ends c.args.labels c.args.bytes.now c.loop-alloc.code c.loop-alloc.rest.now (sym c.stops.ensures ∙ c.loop-alloc-test.false) c.loop-alloc.invariant
