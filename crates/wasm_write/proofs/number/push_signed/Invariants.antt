use Rattle.std.proofs.Common.{◌++◌}
use Rattle.wasm_form.specs.Leb.{shortest_signed_in}
use Rattle.wasm_write.proofs.Rests.{IsOn}
use Rattle.wasm_write.proofs.number.push_signed.Given as goal

abbrev pub invariant-loop-rest : goal.invariant-loop-rest
invariant-loop-rest l = IsOn (λ k n. shortest_signed_in k l.negative n) (l.fn.out.items ++ shortest_signed_in 10 l.negative l.n) l.out.items l.rest

abbrev pub decreases-loop-rest : goal.decreases-loop-rest
decreases-loop-rest l = l.rest
