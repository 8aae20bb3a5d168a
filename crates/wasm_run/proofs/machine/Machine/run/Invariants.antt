use Rattle.std.proofs.Common.{◌-◌, ◌≤◌}
use Rattle.wasm_form.specs.Steps.{run, machine_run}
use Rattle.wasm_form.specs.Within.{IsWithin}
use Rattle.wasm_run.specs.Room.{HasRoom}
use Rattle.wasm_run.proofs.Runs.{IsOn}
use Rattle.wasm_run.proofs.machine.Machine.run.Given as goal

abbrev pub invariant-loop-done : goal.invariant-loop-done
invariant-loop-done g l = record {
  within : IsWithin l.module;
  room : HasRoom l.state;
  on : IsOn (machine_run l.fn.self.program l.fn.self.input l.n) (run l.module (l.n - l.done) l.done l.state) (g.K.Sink.written l.fn.sink) (g.K.Sink.written l.sink);
  faults : g.K.Sink.faults l.fn.sink ≤ g.K.Sink.faults l.sink;
}
