-- How a run is answered.
use Rattle.std.specs.Prelude.{◌≡◌, ℕ, ◌<◌, List, ◌++◌, length}
use Rattle.own_io.specs.Outside.{Told, told_after, HasRisen}
use Rattle.wasm_form.specs.Steps.{Outcome, Ended, Trapped, Running}
use Rattle.wasm_run.specs.declared.machine.Ran.{Ran}
use Rattle.wasm_run.specs.declared.machine.Ran.TheVariants as ran

-- The answer is that of the run, and the sink got its output. After a fault the count of faults rose, and the sink got
-- a proper prefix of the output.
abbrev pub RanAs : Ran → (old new : Told) → (faults faults' : ℕ) → List ℕ × Outcome → Type 0
RanAs (ran.Ended steps) old new faults faults' r = (r.1 ≡ Ended steps) × (new ≡ told_after old r.0)
RanAs (ran.Trapped code at) old new faults faults' r = (r.1 ≡ Trapped code at) × (new ≡ told_after old r.0)
RanAs ran.Running old new faults faults' r = (r.1 ≡ Running) × (new ≡ told_after old r.0)
RanAs ran.SinkFault old new faults faults' r = HasRisen faults faults' × ((front rest : List ℕ) × (r.0 ≡ front ++ rest) × (length front < length r.0) × (new ≡ told_after old front))
