use Rattle.std.proofs.Common.{◌≡◌, ◌++◌, take}
use Rattle.std.specs.Vec.{vec_capacity}
use Rattle.wasm_form.specs.Steps.{zeros}
use Rattle.wasm_run.proofs.state.calls.add_zeros.Given as goal

abbrev pub invariant-loop-group : goal.invariant-loop-group
invariant-loop-group l = record { items : l.locals.items ≡ l.fn.locals.items ++ zeros (take l.group-index l.groups); capacity : vec_capacity l.locals ≡ vec_capacity l.fn.locals }
