-- What the module of a text came to, before its line is said.
use Rattle.std.specs.Prelude.{◌≡◌, ◌≢◌, ℕ, ◌⊎◌, ℤ, List, [], Option, Result, Ok, Err}
use Rattle.own_tree.specs.declared.status.Status.{Status}
use Rattle.own_tree.specs.declared.status.Status.TheVariants as status
use Rattle.own_io.specs.Outside as outside
use Rattle.wasm_run.specs.declared.machine.Ran.{Ran}
use Rattle.wasm_run.specs.declared.machine.Ran.TheVariants as ran
use Rattle.own_tool.specs.declared.run.Unrun.{Unrun}
use Rattle.own_tool.specs.declared.run.Unrun.TheVariants as unrun
use Rattle.own_tool.specs.Texts.{memory_line, steps_line, trap_line}
use Rattle.own_tool.specs.Headline.{Told, Holding, IsUntouched, IsSaved}
use Rattle.own_tool.specs.Executed.{RanSo, status_of_run}
use Rattle.own_tool.specs.Saying.{Said}

-- the line of a run of a text's module
abbrev pub line_of_ran : (file text : List ℕ) → Ran → List ℕ
line_of_ran file text (ran.Ended steps) = []
line_of_ran file text (ran.Trapped code at) = trap_line file text code at
line_of_ran file text ran.Running = steps_line
line_of_ran file text ran.SinkFault = []

-- A module was saved, or why it was not. `failed` says that the count of the folder's faults rose.
abbrev pub IsKept : Told → Holding → (failed : Type 0) → Option (List ℕ) → (bytes : List ℕ) → Result Unit Unrun → Type 0
IsKept folder after failed saved bytes (Ok done) = IsSaved folder after saved bytes
IsKept folder after failed saved bytes (Err unrun.Memory) = IsUntouched folder after
IsKept folder after failed saved bytes (Err unrun.SaveFailed) = failed

module _ (folder : Told) (after : Holding) (failed : Type 0) (saved : Option (List ℕ)) (steps : ℕ) (input : List ℤ) where
  -- bytes that spell a module were saved, and it ran so; or nothing was written, and why
  abbrev pub BytesRan : (bytes : List ℕ) → Result Ran Unrun → (old new : outside.Told) → (faults faults' : ℕ) → Type 0
  BytesRan bytes (Ok r) old new faults faults' =
      IsSaved folder after saved bytes × RanSo bytes steps input r old new faults faults'
  BytesRan bytes (Err unrun.Memory) old new faults faults' = (new ≡ old) × IsUntouched folder after
  BytesRan bytes (Err unrun.SaveFailed) old new faults faults' = (new ≡ old) × failed

  -- the same of bytes that are not named
  abbrev pub HasRun : Result Ran Unrun → (old new : outside.Told) → (faults faults' : ℕ) → Type 0
  HasRun r old new faults faults' = (bytes : List ℕ) × BytesRan bytes r old new faults faults'

-- a run was told, or memory was refused for its line; after a failed write there is no line
abbrev pub IsRanSaid : (file text : List ℕ) → Ran → Status → (old new : outside.Told) → (faults : Type 0) → Type 0
IsRanSaid file text r result old new faults =
    Said (status_of_run r) (line_of_ran file text r) result old new faults
    ⊎ ((status_of_run r ≢ status.WriteFault) × Said status.Memory memory_line result old new faults)

-- a run was told, or why there was none
abbrev pub IsLaunchSaid : (file text : List ℕ) → Result Ran Unrun → Status → (old new : outside.Told) → (faults : Type 0) → Type 0
IsLaunchSaid file text (Ok r) result old new faults = IsRanSaid file text r result old new faults
IsLaunchSaid file text (Err unrun.Memory) result old new faults = Said status.Memory memory_line result old new faults
IsLaunchSaid file text (Err unrun.SaveFailed) result old new faults = (result ≡ status.WriteFault) × (new ≡ old)
