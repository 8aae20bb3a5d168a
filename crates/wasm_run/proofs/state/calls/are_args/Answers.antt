use Rattle.std.proofs.Common.{ap, sym, ◌∙◌, arith, length}
use Rattle.wasm_form.specs.Steps.{typed}
use Rattle.wasm_run.proofs.Args.{too_few, args_slice}
use Rattle.wasm_run.proofs.state.calls.are_args.Goals as goal

pub returns-then-values-base-clause-typed : goal.returns-then-values-base-clause-typed
returns-then-values-base-clause-typed c = sym (too_few c.args.base c.args.values.now c.args.params.now c.if-values-base.true)

pub returns-clause-typed : goal.returns-clause-typed
returns-clause-typed c =
    let h = c.requires in
    c.are_typed.ensures ∙ ap (λ l. typed l c.args.params.now) (sym (args_slice c.args.base (length c.args.params.now) c.args.values.now (omega arith)))
