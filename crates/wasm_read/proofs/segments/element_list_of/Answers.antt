use Rattle.std.proofs.Common.{[]}
use Rattle.std.proofs.lemmas.Result.{err_from_is_err_and}
use Rattle.wasm_read.specs.Entries.{element_at}
use Rattle.wasm_read.specs.Reading.{list_at}
use Rattle.wasm_read.proofs.Loops.{goes_on, fails, ends}
use Rattle.wasm_read.proofs.segments.element_list_of.Goals as goal

pub returns-in_err-element : goal.returns-in_err-element
returns-in_err-element c =
    let p = err_from_is_err_and c.from_residual-in_err-element.result c.from_residual-in_err-element.ensures.1 in
    rw (p.1, p.2) (fails c.in_err-element.field-0.0 (λ _. element_at c.args.tables.now c.args.functions) c.loop.elements.items c.args.count c.loop.counter c.loop.rest.now (list_at (λ _. element_at c.args.tables.now c.args.functions) [] c.args.count c.args.bytes.now) c.loop-test.true c.in_err-element.ensures c.loop.invariant)

pub loop-preserved : goal.loop-preserved
loop-preserved c =
    rw c.in_ok-push.ensures.items (goes_on (λ _. element_at c.args.tables.now c.args.functions) c.loop.elements.items c.args.count c.loop.counter c.loop.rest.now c.in_ok-element.element c.in_ok-element.after.now (list_at (λ _. element_at c.args.tables.now c.args.functions) [] c.args.count c.args.bytes.now) c.loop-test.true c.in_ok-element.ensures c.loop.invariant)

pub returns : goal.returns
returns c = rw c.from_vec.ensures (ends (λ _. element_at c.args.tables.now c.args.functions) c.loop.elements.items c.args.count c.loop.counter c.loop.rest.now (list_at (λ _. element_at c.args.tables.now c.args.functions) [] c.args.count c.args.bytes.now) c.loop-test.false c.loop.invariant)
