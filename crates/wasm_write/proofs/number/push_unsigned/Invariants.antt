use Rattle.std.proofs.Common.{◌++◌}
use Rattle.wasm_form.specs.Leb.{shortest_in}
use Rattle.wasm_write.proofs.Rests.{IsOn}
use Rattle.wasm_write.proofs.number.push_unsigned.Given as goal

abbrev pub invariant-loop-rest : goal.invariant-loop-rest
invariant-loop-rest l = IsOn shortest_in (l.fn.out.items ++ shortest_in 10 l.n) l.out.items l.rest

abbrev pub decreases-loop-rest : goal.decreases-loop-rest
decreases-loop-rest l = l.rest
