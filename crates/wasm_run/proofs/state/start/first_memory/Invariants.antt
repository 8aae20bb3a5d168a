use Rattle.std.proofs.Common.{◌≡◌, ◌*◌, drop, length}
use Rattle.wasm_form.specs.Steps.{with_segments, memory_of, least}
use Rattle.wasm_run.proofs.state.start.first_memory.Given as goal
use Rattle.wasm_form.specs.declared.limits.TheConstants.{PAGE}

abbrev pub invariant-loop-segment : goal.invariant-loop-segment
invariant-loop-segment l = record {
  rest : with_segments (drop l.segment-index l.module.segments) l.memory.items ≡ memory_of l.module;
  len : length l.memory.items ≡ least l.module.memories * PAGE;
}
