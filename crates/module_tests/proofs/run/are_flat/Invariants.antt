use Rattle.std.proofs.Common.{◌≤◌, take}
use Rattle.wasm_form.specs.Within.{nest}
use Rattle.module_tests.proofs.run.are_flat.Given as goal

abbrev pub invariant-loop-instr : goal.invariant-loop-instr
invariant-loop-instr l = nest (take l.instr-index l.code) ≤ 0
