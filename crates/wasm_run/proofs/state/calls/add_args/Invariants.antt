use Rattle.std.proofs.Common.{◌≡◌, ◌++◌, take}
use Rattle.std.specs.Vec.{vec_capacity}
use Rattle.wasm_run.proofs.state.calls.add_args.Given as goal

abbrev pub invariant-loop-value : goal.invariant-loop-value
invariant-loop-value l = record { items : l.locals.items ≡ l.fn.locals.items ++ take l.value-index l.value-items; capacity : vec_capacity l.locals ≡ vec_capacity l.fn.locals }
