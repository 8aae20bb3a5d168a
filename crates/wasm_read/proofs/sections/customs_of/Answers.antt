use Rattle.std.proofs.Common.{sym, ◌∙◌}
use Rattle.std.proofs.lemmas.Result.{err_from_is_err_and}
use Rattle.wasm_read.proofs.Customs.{begins, goes_on, fails, ends}
use Rattle.wasm_read.proofs.sections.customs_of.Goals as goal

pub loop-rest-init : goal.loop-rest-init
loop-rest-init c = begins c.args.bytes.now

pub returns-in_err-rest : goal.returns-in_err-rest
returns-in_err-rest c =
    let p = err_from_is_err_and c.from_residual.result c.from_residual.ensures.1 in
    rw (p.1, p.2) (fails c.in_err-rest.field-0.0 c.args.bytes.now c.loop-rest.rest.now (sym c.is_custom.ensures ∙ c.loop-rest-test.true) c.loop-rest.invariant c.in_err-rest.ensures.gives)

pub loop-rest-preserved : goal.loop-rest-preserved
loop-rest-preserved c = goes_on c.args.bytes.now c.loop-rest.rest.now c.in_ok-rest.rest.now (sym c.is_custom.ensures ∙ c.loop-rest-test.true) c.loop-rest.invariant c.in_ok-rest.ensures.gives c.in_ok-rest.ensures.shorter

pub returns : goal.returns
returns c = ends c.args.bytes.now c.loop-rest.rest.now (sym c.is_custom.ensures ∙ c.loop-rest-test.false) c.loop-rest.invariant
