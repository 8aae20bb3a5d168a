use Rattle.wasm_read.proofs.number.+number.Given as goal

abbrev pub decreases-number : goal.decreases-number
decreases-number l = l.bits
