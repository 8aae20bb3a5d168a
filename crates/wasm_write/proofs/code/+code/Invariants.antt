use Rattle.std.proofs.Common.{◌≡◌, ◌++◌, take}
use Rattle.std.specs.List.{flat_map}
use Rattle.wasm_form.specs.Shortest.{instr_shortest}
use Rattle.wasm_write.proofs.code.+code.Given as goal

abbrev pub invariant-push_code-loop-instr : goal.invariant-push_code-loop-instr
invariant-push_code-loop-instr l = l.out.items ≡ l.fn.out.items ++ flat_map instr_shortest (take l.instr-index l.code)
