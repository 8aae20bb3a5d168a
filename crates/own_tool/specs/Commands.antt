-- What a call answers, by its words.
use Rattle.std.specs.Prelude.{◌≡◌, ℕ, ◌⊎◌, ℤ, Bool, true, false, IsUtf8, List, [], Option, Some, None}
use Rattle.own_tree.specs.declared.command.Command.{Command}
use Rattle.own_tree.specs.declared.command.Command.TheVariants as command
use Rattle.own_tree.specs.declared.status.Status.{Status}
use Rattle.own_tree.specs.declared.status.Status.TheVariants as status
use Rattle.own_words.specs.Words.{Words}
use Rattle.own_tool.specs.Texts.{memory_line}
use Rattle.own_tool.specs.Headline.{Told, Holding, IsOther, IsTextIfAny, Meaning, IsUsage}
use Rattle.own_tool.specs.Build.{BuildAnswers}
use Rattle.own_tool.specs.Check.{CheckAnswers}
use Rattle.own_tool.specs.Exec.{ExecAnswers, HoldsModule, IsRunOrMemory}
use Rattle.own_tool.specs.Run.{RunAnswers}
use Rattle.wasm_form.specs.declared.module.Module.{Module}

-- which commands are served so far
abbrev pub is_served : Command → Bool
is_served (command.Selftest number size) = false
is_served other = true

-- a command that is not served yet is answered as words that are none
abbrev pub CommandAnswers : Told → (after : Holding) → (faults : Type 0) → Command → Meaning
CommandAnswers folder after faults (command.Check file) answer gained said =
    CheckAnswers folder faults file answer gained said
CommandAnswers folder after faults (command.Build file out trace) answer gained said =
    BuildAnswers folder after faults file out answer gained said
CommandAnswers folder after faults (command.Run file out steps trace input) answer gained said =
    RunAnswers folder after file out steps input faults answer gained said
CommandAnswers folder after faults (command.Exec file steps input) answer gained said =
    ExecAnswers folder faults file steps input answer gained said
CommandAnswers folder after faults (command.Selftest number size) answer gained said = IsUsage answer gained said

abbrev pub IsNoCommand : List (List ℕ) → Type 0
IsNoCommand words = (c : Command) → Words words c → ⊥

-- memory was refused for the words
pub record IsUnread (answer : Status) (gained said : List ℕ) : Type 0 where
  pub status_is : answer ≡ status.Memory
  pub gained_is : gained ≡ []
  pub said_is : said ≡ memory_line

abbrev pub Answers : Told → (after : Holding) → (faults : Type 0) → (words : List (List ℕ)) → Meaning
Answers folder after faults words answer gained said =
    ((c : Command) × Words words c × CommandAnswers folder after faults c answer gained said)
    ⊎ (IsNoCommand words × IsUsage answer gained said)
    ⊎ IsUnread answer gained said

-- `exec` of a file that holds a module runs it, unless memory is refused
abbrev pub RunsModules : Told → (words : List (List ℕ)) → Status → Type 0
RunsModules folder words answer =
    (file bytes : List ℕ) (steps : ℕ) (input : List ℤ) (m : Module)
    → Words words (command.Exec file steps input) → HoldsModule folder file bytes m
    → IsRunOrMemory m steps input answer

-- words of which no command that is served is made
abbrev pub IsNotServed : List (List ℕ) → Type 0
IsNotServed words = (c : Command) → Words words c → is_served c ≡ false

-- the name that a command saves a module under, if any
abbrev pub saved_of : Command → Option (List ℕ)
saved_of (command.Build file out trace) = Some out
saved_of (command.Run file out steps trace input) = out
saved_of other = None

-- a name that the words save nothing under
abbrev pub IsLeft : List (List ℕ) → (name : List ℕ) → Type 0
IsLeft words name = (c : Command) → Words words c → IsOther (saved_of c) name

-- the names of a command's files are text
abbrev pub NamesText : Command → Type 0
NamesText (command.Check file) = IsUtf8 file
NamesText (command.Build file out trace) = IsUtf8 file × IsUtf8 out
NamesText (command.Run file out steps trace input) = IsUtf8 file × IsTextIfAny out
NamesText (command.Exec file steps input) = IsUtf8 file
NamesText (command.Selftest number size) = Unit {0}
