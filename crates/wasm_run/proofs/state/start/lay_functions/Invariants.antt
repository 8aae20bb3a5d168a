use Rattle.std.proofs.Common.{◌≡◌, take, map, Some}
use Rattle.wasm_form.specs.Steps.{laid}
use Rattle.wasm_run.proofs.state.start.lay_functions.Given as goal

abbrev pub invariant-loop-k : goal.invariant-loop-k
invariant-loop-k l = l.table ≡ laid l.at (map Some (take l.k l.functions)) l.fn.table
