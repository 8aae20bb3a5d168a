-- Why nothing is done with a file, before its line is said: how that is answered, and what it says of the file.
use Rattle.std.specs.Prelude.{◌≡◌, ℕ, ◌⊎◌, IsTrue, List, [], None, Result, Ok, Err}
use Rattle.std.specs.declared.alloc.AllocError.{AllocError}
use Rattle.own_tree.specs.declared.status.Status.{Status}
use Rattle.own_tree.specs.declared.status.Status.TheVariants as status
use Rattle.own_io.specs.Outside as outside
use Rattle.own_tool.specs.declared.check.Accepted.{Accepted}
use Rattle.own_tool.specs.declared.check.Declined.{Declined}
use Rattle.own_tool.specs.declared.check.Declined.TheVariants as declined
use Rattle.own_tool.specs.Texts.{memory_line, read_line, too_long_line}
use Rattle.own_tool.specs.Headline.{Told, IsReadFault, Meaning}
use Rattle.own_tool.specs.Check.{AreRefusals, IsText, IsLongText, IsUnaccepted}
use Rattle.own_tool.specs.Saying.{Said}

abbrev pub status_of : Declined → Status
status_of declined.ReadFault = status.ReadFault
status_of declined.TooLong = status.Refused
status_of (declined.Refused lines) = status.Refused
status_of declined.Memory = status.Memory

abbrev pub line_of : (file : List ℕ) → Declined → List ℕ
line_of file declined.ReadFault = read_line file
line_of file declined.TooLong = too_long_line file
line_of file (declined.Refused lines) = lines
line_of file declined.Memory = memory_line

-- what it says of a text that was read
abbrev pub IsDeclinedText : (file text : List ℕ) → Declined → Type 0
IsDeclinedText file text declined.ReadFault = ⊥
IsDeclinedText file text declined.TooLong = ⊥
IsDeclinedText file text (declined.Refused lines) = AreRefusals file text lines
IsDeclinedText file text declined.Memory = Unit {0}

-- `failed` says that the count of the folder's faults rose
module _ (folder : Told) (failed : Type 0) (file : List ℕ) where
  abbrev pub IsDeclined : Declined → Type 0
  IsDeclined declined.ReadFault = failed ⊎ (IsTrue folder.tells × (folder.held file ≡ None))
  IsDeclined declined.TooLong = IsLongText folder file
  IsDeclined (declined.Refused lines) = (text : List ℕ) × IsText folder file text × AreRefusals file text lines
  IsDeclined declined.Memory = Unit {0}

  -- the text is accepted, or it is declined
  abbrev pub IsOpened : Result Accepted Declined → Type 0
  IsOpened (Ok accepted) = IsText folder file accepted.text
  IsOpened (Err why) = IsDeclined why

-- the same of a text that was read
abbrev pub TextIsOpened : (file text : List ℕ) → Result Accepted Declined → Type 0
TextIsOpened file text (Ok accepted) = accepted.text ≡ text
TextIsOpened file text (Err why) = IsDeclinedText file text why

-- what is answered of a file with which nothing is done
abbrev pub DeclinedAnswers : Told → (faults : Type 0) → (file : List ℕ) → Meaning
DeclinedAnswers folder faults file status.Refused gained said = IsUnaccepted folder file gained said
DeclinedAnswers folder faults file status.Memory gained said = (gained ≡ []) × (said ≡ memory_line)
DeclinedAnswers folder faults file status.ReadFault gained said = IsReadFault folder faults file gained said
DeclinedAnswers folder faults file status.Done gained said = ⊥
DeclinedAnswers folder faults file status.Usage gained said = ⊥
DeclinedAnswers folder faults file status.Trapped gained said = ⊥
DeclinedAnswers folder faults file status.OutOfSteps gained said = ⊥
DeclinedAnswers folder faults file status.WriteFault gained said = ⊥
DeclinedAnswers folder faults file status.BadModule gained said = ⊥

-- it was said, or memory was refused for its line
abbrev pub IsDeclinedSo : (file : List ℕ) → Declined → Status → (old new : outside.Told) → (faults : Type 0) → Type 0
IsDeclinedSo file why result old new faults =
    Said (status_of why) (line_of file why) result old new faults
    ⊎ Said status.Memory memory_line result old new faults
