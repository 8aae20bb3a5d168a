use Rattle.std.proofs.Common.{◌≡◌, drop, length}
use Rattle.wasm_form.specs.Steps.{with_elements, table_of, least}
use Rattle.wasm_run.proofs.state.start.first_table.Given as goal

abbrev pub invariant-loop-segment : goal.invariant-loop-segment
invariant-loop-segment l = record {
  rest : with_elements (drop l.segment-index l.module.elements) l.table.items ≡ table_of l.module;
  len : length l.table.items ≡ least l.module.tables;
}
