-- What `build` answers: the cause of each status, with what `out` and `err` gain where no write to them fails.
use Rattle.std.specs.Prelude.{◌≡◌, ℕ, List, [], Some}
use Rattle.own_tree.specs.declared.status.Status.{Status}
use Rattle.own_tree.specs.declared.status.Status.TheVariants as status
use Rattle.own_tool.specs.Texts.{memory_line, flags_line}
use Rattle.own_tool.specs.Headline.{Told, Holding, IsUntouched, IsSaved, IsReadFault, Meaning}
use Rattle.own_tool.specs.Check.{IsText, IsUnaccepted}

-- the text became these bytes, which the folder holds under OUT
abbrev pub IsBuilt : Told → (after : Holding) → (file out gained said : List ℕ) → Type 0
IsBuilt folder after file out gained said =
    (text : List ℕ) × (bytes : List ℕ) × (flags : ℕ) × IsText folder file text
    × IsSaved folder after (Some out) bytes × (gained ≡ flags_line flags) × (said ≡ [])

-- Where no text was built nothing was saved. A failed save is a failed write after which nothing is said.
abbrev pub BuildAnswers : Told → (after : Holding) → (faults : Type 0) → (file out : List ℕ) → Meaning
BuildAnswers folder after faults file out status.Done gained said = IsBuilt folder after file out gained said
BuildAnswers folder after faults file out status.Refused gained said =
    IsUnaccepted folder file gained said × IsUntouched folder after
BuildAnswers folder after faults file out status.Usage gained said = ⊥
BuildAnswers folder after faults file out status.Trapped gained said = ⊥
BuildAnswers folder after faults file out status.OutOfSteps gained said = ⊥
BuildAnswers folder after faults file out status.Memory gained said =
    (gained ≡ []) × (said ≡ memory_line) × IsUntouched folder after
BuildAnswers folder after faults file out status.ReadFault gained said =
    IsReadFault folder faults file gained said × IsUntouched folder after
BuildAnswers folder after faults file out status.WriteFault gained said = faults × (gained ≡ []) × (said ≡ [])
BuildAnswers folder after faults file out status.BadModule gained said = ⊥
