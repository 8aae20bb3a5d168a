use Rattle.std.proofs.Common.{◌≡◌, ◌++◌}
use Rattle.std.specs.Prelude.{replicate}
use Rattle.std.specs.Vec.{vec_capacity}
use Rattle.wasm_form.specs.Steps.{zero_of}
use Rattle.wasm_run.proofs.state.calls.add_group.Given as goal

abbrev pub invariant-loop : goal.invariant-loop
invariant-loop l = record { items : l.locals.items ≡ l.fn.locals.items ++ replicate l.counter (zero_of l.group.value_type); capacity : vec_capacity l.locals ≡ vec_capacity l.fn.locals }
