use Rattle.wasm_run.proofs.Find.{IsHere}
use Rattle.wasm_run.proofs.state.blocks.find.Given as goal

abbrev pub invariant-loop-at : goal.invariant-loop-at
invariant-loop-at l = IsHere l.layers l.base l.fn.past l.at l.start l.left

abbrev pub decreases-loop-at : goal.decreases-loop-at
decreases-loop-at l = l.at
