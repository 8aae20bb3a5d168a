use Rattle.std.proofs.Common.{◌≡◌, drop}
use Rattle.wasm_form.specs.Steps.{main_in}
use Rattle.wasm_run.proofs.state.start.main_index.Given as goal

abbrev pub invariant-loop-export : goal.invariant-loop-export
invariant-loop-export l = main_in (drop l.export-index l.exports) ≡ main_in l.exports
