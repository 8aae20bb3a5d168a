-- What a module came to, before its line is said: how that is answered, and what it says of the file.
use Rattle.std.specs.Prelude.{◌≡◌, ◌≢◌, ℕ, ◌≤◌, ◌⊎◌, ℤ, IsTrue, List, [], length, None, Result, Ok, Err}
use Rattle.std.specs.declared.alloc.AllocError.{AllocError}
use Rattle.own_tree.specs.declared.status.Status.{Status}
use Rattle.own_tree.specs.declared.status.Status.TheVariants as status
use Rattle.own_io.specs.Outside as outside
use Rattle.wasm_form.specs.declared.module.Module.{Module}
use Rattle.wasm_form.specs.Bytes.{ModuleBytes}
use Rattle.wasm_form.specs.Steps.{machine_run}
use Rattle.wasm_run.specs.declared.machine.Ran.{Ran}
use Rattle.wasm_run.specs.declared.machine.Ran.TheVariants as ran
use Rattle.wasm_run.specs.Runs.{RanAs}
use Rattle.own_tool.specs.declared.exec.Executed.{Executed}
use Rattle.own_tool.specs.declared.exec.Executed.TheVariants as executed
use Rattle.own_tool.specs.Texts.{memory_line, read_line, steps_line, exec_trap_line}
use Rattle.own_tool.specs.Texts.{bad_module_line, too_long_module_line}
use Rattle.own_tool.specs.Headline.{Told, IsContent}
use Rattle.own_tool.specs.Exec.{MOST_MODULE_BYTES, IsNoModule, IsTooLong}
use Rattle.own_tool.specs.Saying.{Said}

-- ---- the answer and its line

abbrev pub status_of_run : Ran → Status
status_of_run (ran.Ended steps) = status.Done
status_of_run (ran.Trapped code at) = status.Trapped
status_of_run ran.Running = status.OutOfSteps
status_of_run ran.SinkFault = status.WriteFault

abbrev pub status_of : Executed → Status
status_of executed.ReadFault = status.ReadFault
status_of executed.TooLong = status.BadModule
status_of (executed.Bad e) = status.BadModule
status_of (executed.Ran r) = status_of_run r

abbrev pub line_of_run : (file : List ℕ) → Ran → List ℕ
line_of_run file (ran.Ended steps) = []
line_of_run file (ran.Trapped code at) = exec_trap_line file code at
line_of_run file ran.Running = steps_line
line_of_run file ran.SinkFault = []

abbrev pub line_of : (file : List ℕ) → Executed → List ℕ
line_of file executed.ReadFault = read_line file
line_of file executed.TooLong = too_long_module_line file
line_of file (executed.Bad e) = bad_module_line file e
line_of file (executed.Ran r) = line_of_run file r

-- ---- what it says of the bytes, and what the output gained. `old` and `new` are what the output told before and
-- after, and `faults` and `faults'` are the counts of its faults.

-- the bytes spell a module, which ran so
abbrev pub RanSo : (bytes : List ℕ) → (steps : ℕ) → List ℤ → Ran
    → (old new : outside.Told) → (faults faults' : ℕ) → Type 0
RanSo bytes steps input r old new faults faults' =
    (m : Module) × ModuleBytes bytes m × RanAs r old new faults faults' (machine_run m input steps)

module _ (bytes : List ℕ) (steps : ℕ) (input : List ℤ) where
  abbrev pub BytesCameTo : Executed → (old new : outside.Told) → (faults faults' : ℕ) → Type 0
  BytesCameTo executed.ReadFault old new faults faults' = ⊥
  BytesCameTo executed.TooLong old new faults faults' = ⊥
  BytesCameTo (executed.Bad e) old new faults faults' = (new ≡ old) × IsNoModule bytes e
  BytesCameTo (executed.Ran r) old new faults faults' = RanSo bytes steps input r old new faults faults'

  -- want of memory comes before anything is written
  abbrev pub BytesComeTo : Result Executed AllocError → (old new : outside.Told) → (faults faults' : ℕ) → Type 0
  BytesComeTo (Err e) old new faults faults' = new ≡ old
  BytesComeTo (Ok x) old new faults faults' = BytesCameTo x old new faults faults'

-- `failed` says that the count of the folder's faults rose
module _ (folder : Told) (failed : Type 0) (file : List ℕ) (steps : ℕ) (input : List ℤ) where
  abbrev pub CameTo : Executed → (old new : outside.Told) → (faults faults' : ℕ) → Type 0
  CameTo executed.ReadFault old new faults faults' =
      (new ≡ old) × (failed ⊎ (IsTrue folder.tells × (folder.held file ≡ None)))
  CameTo executed.TooLong old new faults faults' = (new ≡ old) × IsTooLong folder file
  CameTo (executed.Bad e) old new faults faults' =
      (new ≡ old) × ((bytes : List ℕ) × IsContent folder file bytes × IsNoModule bytes e)
  CameTo (executed.Ran r) old new faults faults' =
      (bytes : List ℕ) × IsContent folder file bytes × (length bytes ≤ MOST_MODULE_BYTES)
      × RanSo bytes steps input r old new faults faults'

  abbrev pub ComesTo : Result Executed AllocError → (old new : outside.Told) → (faults faults' : ℕ) → Type 0
  ComesTo (Err e) old new faults faults' = new ≡ old
  ComesTo (Ok x) old new faults faults' = CameTo x old new faults faults'

-- what a module came to was said, or memory was refused for its line; after a failed write there is no line
abbrev pub IsToldOf : (file : List ℕ) → Executed → Status → (old new : outside.Told) → (faults : Type 0) → Type 0
IsToldOf file x result old new faults =
    Said (status_of x) (line_of file x) result old new faults
    ⊎ ((status_of x ≢ status.WriteFault) × Said status.Memory memory_line result old new faults)
