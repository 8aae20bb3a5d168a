use Rattle.std.proofs.Common.{◌≡◌, length}
use Rattle.wasm_form.specs.Steps.{same_types}
use Rattle.wasm_run.proofs.state.table.is_same_list.Given as goal

abbrev pub invariant-loop-own : goal.invariant-loop-own
invariant-loop-own l = same_types l.own l.other ≡ same_types l.left l.right

abbrev pub decreases-loop-own : goal.decreases-loop-own
decreases-loop-own l = length l.own
