-- What `exec` answers: the cause of each status, with what `out` and `err` gain where no write fails.
use Rattle.std.specs.Prelude.{◌≡◌, ◌≢◌, ℕ, ◌≤◌, ◌<◌, ◌⊎◌, ℤ, IsTrue, List, [], length, Some, IsSomeAnd, Err}
use Rattle.own_tree.specs.declared.status.Status.{Status}
use Rattle.own_tree.specs.declared.status.Status.TheVariants as status
use Rattle.wasm_form.specs.declared.module.Module.{Module}
use Rattle.wasm_form.specs.Bytes.{ModuleBytes}
use Rattle.wasm_form.specs.Steps.{Outcome, Ended, Trapped, Running, machine_run}
use Rattle.wasm_read.specs.declared.fault.ReadError.{ReadError}
use Rattle.wasm_read.specs.declared.fault.ReadError.TheVariants as error
use Rattle.wasm_read.specs.Answers as reading
use Rattle.wasm_read.specs.Sections.{module_at}
use Rattle.own_tool.specs.Texts.{memory_line, steps_line, exec_trap_line, bad_module_line, too_long_module_line}
use Rattle.own_tool.specs.Headline.{Told, IsContent, IsReadFault, Meaning}

-- the most bytes of a module
abbrev pub MOST_MODULE_BYTES : ℕ
MOST_MODULE_BYTES = 268435456

-- the file spells a module, which wrote this and came out so
abbrev pub Executes : Told → (file : List ℕ) → (steps : ℕ) → List ℤ → (gained : List ℕ) → Outcome → Type 0
Executes folder file steps input gained outcome =
    (bytes : List ℕ) × (m : Module) × IsContent folder file bytes
    × (length bytes ≤ MOST_MODULE_BYTES) × ModuleBytes bytes m
    × (machine_run m input steps ≡ (gained, outcome))

-- the bytes spell no module, and this is their first fault
pub record IsNoModule (bytes : List ℕ) (e : ReadError) : Type 0 where
  pub short : length bytes ≤ MOST_MODULE_BYTES
  pub none : (m : Module) → ModuleBytes bytes m → ⊥
  pub fault : e ≢ error.Memory
  pub first : reading.Answers bytes (Err e) (module_at bytes)

-- the file has more bytes than are taken
abbrev pub IsTooLong : Told → (file : List ℕ) → Type 0
IsTooLong folder file = IsTrue folder.tells → IsSomeAnd (folder.held file) (λ bytes. MOST_MODULE_BYTES < length bytes)

abbrev pub IsBadModule : Told → (file gained said : List ℕ) → Type 0
IsBadModule folder file gained said = (gained ≡ []) × (
    ((bytes : List ℕ) × (e : ReadError) × IsContent folder file bytes × IsNoModule bytes e
    × (said ≡ bad_module_line file e))
    ⊎ (IsTooLong folder file × (said ≡ too_long_module_line file)))

-- memory may be refused before anything is written, or when what the module wrote stands already
abbrev pub IsExecMemory : Told → (file : List ℕ) → (steps : ℕ) → List ℤ → (gained said : List ℕ) → Type 0
IsExecMemory folder file steps input gained said = (said ≡ memory_line) × (
    (gained ≡ []) ⊎ ((outcome : Outcome) × Executes folder file steps input gained outcome))

abbrev pub ExecAnswers : Told → (faults : Type 0) → (file : List ℕ) → (steps : ℕ) → List ℤ → Meaning
ExecAnswers folder faults file steps input status.Done gained said =
    (n : ℕ) × Executes folder file steps input gained (Ended n) × (said ≡ [])
ExecAnswers folder faults file steps input status.Refused gained said = ⊥
ExecAnswers folder faults file steps input status.Usage gained said = ⊥
ExecAnswers folder faults file steps input status.Trapped gained said =
    (code : ℕ) × (at : ℕ) × Executes folder file steps input gained (Trapped code at)
    × (said ≡ exec_trap_line file code at)
ExecAnswers folder faults file steps input status.OutOfSteps gained said =
    Executes folder file steps input gained Running × (said ≡ steps_line)
ExecAnswers folder faults file steps input status.Memory gained said =
    IsExecMemory folder file steps input gained said
ExecAnswers folder faults file steps input status.ReadFault gained said = IsReadFault folder faults file gained said
ExecAnswers folder faults file steps input status.WriteFault gained said = ⊥
ExecAnswers folder faults file steps input status.BadModule gained said = IsBadModule folder file gained said

-- ---- completeness

-- the folder tells that it holds a module under the name
pub record HoldsModule (folder : Told) (file bytes : List ℕ) (m : Module) : Type 0 where
  pub tells : IsTrue folder.tells
  pub content : folder.held file ≡ Some bytes
  pub short : length bytes ≤ MOST_MODULE_BYTES
  pub spells : ModuleBytes bytes m

-- how a run that came out so is answered
abbrev pub status_of_outcome : Outcome → Status
status_of_outcome (Ended n) = status.Done
status_of_outcome (Trapped code at) = status.Trapped
status_of_outcome Running = status.OutOfSteps

-- A module is run: its status is that of its run, unless memory was refused.
abbrev pub IsRunOrMemory : Module → (steps : ℕ) → List ℤ → Status → Type 0
IsRunOrMemory m steps input answer =
    (answer ≡ status_of_outcome (machine_run m input steps).1) ⊎ (answer ≡ status.Memory)
