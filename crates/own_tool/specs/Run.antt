-- What `run` answers: the cause of each status, with what `out` and `err` gain where no write to them fails.
use Rattle.std.specs.Prelude.{◌≡◌, ℕ, ◌⊎◌, ℤ, List, [], Option}
use Rattle.own_tree.specs.declared.status.Status.{Status}
use Rattle.own_tree.specs.declared.status.Status.TheVariants as status
use Rattle.wasm_form.specs.declared.module.Module.{Module}
use Rattle.wasm_form.specs.Bytes.{ModuleBytes}
use Rattle.wasm_form.specs.Steps.{Outcome, Ended, Trapped, Running, machine_run}
use Rattle.own_tool.specs.Texts.{memory_line, steps_line, trap_line}
use Rattle.own_tool.specs.Headline.{Told, Holding, IsUntouched, IsSaved, IsReadFault, Meaning}
use Rattle.own_tool.specs.Check.{IsText, IsUnaccepted}

-- `saved` is the name of OUT, if the words give one
module _ (folder : Told) (after : Holding) (file : List ℕ) (saved : Option (List ℕ)) (steps : ℕ) (input : List ℤ) where
  -- the text became these bytes, which spell a module, which wrote this and came out so; OUT holds the bytes
  abbrev pub Runs : (text gained : List ℕ) → Outcome → Type 0
  Runs text gained outcome =
      (bytes : List ℕ) × (m : Module) × IsText folder file text × ModuleBytes bytes m
      × (machine_run m input steps ≡ (gained, outcome)) × IsSaved folder after saved bytes

  -- memory may be refused before anything is saved and written, or when what the module wrote stands already
  abbrev pub IsRunMemory : (gained said : List ℕ) → Type 0
  IsRunMemory gained said = (said ≡ memory_line) × (
      ((gained ≡ []) × IsUntouched folder after)
      ⊎ ((text : List ℕ) × (outcome : Outcome) × Runs text gained outcome))

  -- Where no module was run nothing was saved. A failed save is a failed write after which nothing is said.
  abbrev pub RunAnswers : (faults : Type 0) → Meaning
  RunAnswers faults status.Done gained said = (text : List ℕ) × (n : ℕ) × Runs text gained (Ended n) × (said ≡ [])
  RunAnswers faults status.Refused gained said = IsUnaccepted folder file gained said × IsUntouched folder after
  RunAnswers faults status.Usage gained said = ⊥
  RunAnswers faults status.Trapped gained said =
      (text : List ℕ) × (code : ℕ) × (at : ℕ) × Runs text gained (Trapped code at)
      × (said ≡ trap_line file text code at)
  RunAnswers faults status.OutOfSteps gained said = (text : List ℕ) × Runs text gained Running × (said ≡ steps_line)
  RunAnswers faults status.Memory gained said = IsRunMemory gained said
  RunAnswers faults status.ReadFault gained said =
      IsReadFault folder faults file gained said × IsUntouched folder after
  RunAnswers faults status.WriteFault gained said = faults × (gained ≡ []) × (said ≡ [])
  RunAnswers faults status.BadModule gained said = ⊥
