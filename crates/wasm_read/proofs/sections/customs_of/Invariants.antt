use Rattle.std.proofs.Common.{length}
use Rattle.wasm_read.proofs.Customs.{IsOn}
use Rattle.wasm_read.proofs.sections.customs_of.Given as goal

abbrev pub invariant-loop-rest : goal.invariant-loop-rest
invariant-loop-rest l = IsOn l.bytes l.rest

abbrev pub decreases-loop-rest : goal.decreases-loop-rest
decreases-loop-rest l = length l.rest
