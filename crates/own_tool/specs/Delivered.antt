-- What an accepted text came to that was to be built, whatever its file is.
use Rattle.std.specs.Prelude.{◌≡◌, ℕ, List, [], Some}
use Rattle.own_tree.specs.declared.status.Status.{Status}
use Rattle.own_tree.specs.declared.status.Status.TheVariants as status
use Rattle.own_tool.specs.declared.build.Made.{Made}
use Rattle.own_tool.specs.Texts.{memory_line, flags_line}
use Rattle.own_tool.specs.Headline.{Told, Holding, IsUntouched, IsSaved, Meaning}

-- the line tells how many flags there are
abbrev pub IsMade : Made → Type 0
IsMade made = (flags : ℕ) × (made.line ≡ flags_line flags)

abbrev pub AcceptedAnswers : Told → (after : Holding) → (faults : Type 0) → (out : List ℕ) → Meaning
AcceptedAnswers folder after faults out status.Done gained said =
    (bytes : List ℕ) × (flags : ℕ) × IsSaved folder after (Some out) bytes × (gained ≡ flags_line flags) × (said ≡ [])
AcceptedAnswers folder after faults out status.Refused gained said = ⊥
AcceptedAnswers folder after faults out status.Usage gained said = ⊥
AcceptedAnswers folder after faults out status.Trapped gained said = ⊥
AcceptedAnswers folder after faults out status.OutOfSteps gained said = ⊥
AcceptedAnswers folder after faults out status.Memory gained said =
    (gained ≡ []) × (said ≡ memory_line) × IsUntouched folder after
AcceptedAnswers folder after faults out status.ReadFault gained said = ⊥
AcceptedAnswers folder after faults out status.WriteFault gained said = faults × (gained ≡ []) × (said ≡ [])
AcceptedAnswers folder after faults out status.BadModule gained said = ⊥
