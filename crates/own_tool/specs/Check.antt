-- What `check` answers: the cause of each status, with what `out` and `err` gain where no write fails.
use Rattle.std.specs.Prelude.{◌≡◌, ℕ, ◌≤◌, ◌<◌, ◌⊎◌, IsTrue, List, [], length, IsSomeAnd}
use Rattle.own_tree.specs.declared.finding.Finding.{Finding}
use Rattle.own_tree.specs.declared.refusal.Refusal.{Refusal}
use Rattle.own_tree.specs.declared.status.Status.{Status}
use Rattle.own_tree.specs.declared.status.Status.TheVariants as status
use Rattle.own_tree.specs.TypedSource.{Program}
use Rattle.own_shapes.specs.Types.{Types}
use Rattle.own_report.specs.Refusals.{refusal_line}
use Rattle.own_report.specs.Findings.{finding_lines}
use Rattle.own_tool.specs.Texts.{memory_line, accepted_line, too_long_line}
use Rattle.own_tool.specs.Headline.{MOST_BYTES, Told, IsContent, IsReadFault, Meaning}

-- what is said of a text that is not accepted: the line of a refusal, or those of findings
abbrev pub AreRefusals : (file text said : List ℕ) → Type 0
AreRefusals file text said =
    ((refused : Refusal) × (said ≡ refusal_line file text refused))
    ⊎ ((types : Types) × (program : Program) × (findings : List Finding)
    × (said ≡ finding_lines file text types program findings))

-- the folder holds this text under the name, where it tells that, and it is no longer than a text may be
abbrev pub IsText : Told → (file text : List ℕ) → Type 0
IsText folder file text = IsContent folder file text × (length text ≤ MOST_BYTES)

-- the file has more bytes than a text may have
abbrev pub IsLongText : Told → (file : List ℕ) → Type 0
IsLongText folder file = IsTrue folder.tells → IsSomeAnd (folder.held file) (λ text. MOST_BYTES < length text)

-- a text that is not accepted, or one of more bytes than are taken
abbrev pub IsUnaccepted : Told → (file gained said : List ℕ) → Type 0
IsUnaccepted folder file gained said = (gained ≡ []) × (
    ((text : List ℕ) × IsText folder file text × AreRefusals file text said)
    ⊎ (IsLongText folder file × (said ≡ too_long_line file)))

abbrev pub CheckAnswers : Told → (faults : Type 0) → (file : List ℕ) → Meaning
CheckAnswers folder faults file status.Done gained said =
    ((text : List ℕ) × IsText folder file text) × (gained ≡ accepted_line) × (said ≡ [])
CheckAnswers folder faults file status.Refused gained said = IsUnaccepted folder file gained said
CheckAnswers folder faults file status.Usage gained said = ⊥
CheckAnswers folder faults file status.Trapped gained said = ⊥
CheckAnswers folder faults file status.OutOfSteps gained said = ⊥
CheckAnswers folder faults file status.Memory gained said = (gained ≡ []) × (said ≡ memory_line)
CheckAnswers folder faults file status.ReadFault gained said = IsReadFault folder faults file gained said
CheckAnswers folder faults file status.WriteFault gained said = ⊥
CheckAnswers folder faults file status.BadModule gained said = ⊥
