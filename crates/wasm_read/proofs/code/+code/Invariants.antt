use Rattle.std.proofs.Common.{◌+◌, ◌*◌, length}
use Rattle.wasm_read.proofs.CodeLoop.{IsOn}
use Rattle.wasm_read.proofs.code.+code.Given as goal

abbrev pub decreases-code_of : goal.decreases-code_of
decreases-code_of l = 3 * length l.bytes.now + 2

abbrev pub decreases-instr_of : goal.decreases-instr_of
decreases-instr_of l = 3 * length l.bytes.now + 1

abbrev pub invariant-code_of-loop-alloc : goal.invariant-code_of-loop-alloc
invariant-code_of-loop-alloc l = IsOn l.labels l.fn.bytes l.code l.rest

abbrev pub decreases-code_of-loop-alloc : goal.decreases-code_of-loop-alloc
decreases-code_of-loop-alloc l = length l.rest

abbrev pub decreases-second_of : goal.decreases-second_of
decreases-second_of l = 3 * length l.bytes.now + 1

abbrev pub decreases-nested_of : goal.decreases-nested_of
decreases-nested_of l = 3 * length l.bytes.now + 3

abbrev pub decreases-sides_of : goal.decreases-sides_of
decreases-sides_of l = 3 * length l.bytes.now + 3
