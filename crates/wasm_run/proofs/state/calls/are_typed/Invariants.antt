use Rattle.std.proofs.Common.{◌≡◌, ◌-◌, drop, length}
use Rattle.wasm_form.specs.Steps.{typed}
use Rattle.wasm_run.proofs.state.calls.are_typed.Given as goal

abbrev pub invariant-loop-k : goal.invariant-loop-k
invariant-loop-k l = typed (drop l.k l.values) (drop l.k l.types) ≡ typed l.values l.types

abbrev pub decreases-loop-k : goal.decreases-loop-k
decreases-loop-k l = length l.types - l.k
