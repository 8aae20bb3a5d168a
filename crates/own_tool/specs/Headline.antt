-- What a call of the program answers and leaves.
use Rattle.std.specs.Prelude.{◌≡◌, ◌≢◌, ℕ, ◌<◌, ◌⊎◌, Bool, IsTrue, IsUtf8, List, [], ◌++◌, length, Option, Some, None}
use Rattle.own_tree.specs.declared.status.Status.{Status}
use Rattle.own_tree.specs.declared.status.Status.TheVariants as status
use Rattle.own_io.specs.Outside as outside
use Rattle.own_io.specs.Outside.{told_after}
use Rattle.own_tool.specs.Texts.{usage_line, read_line}

-- ---- the folder

-- the most bytes of a text
abbrev pub MOST_BYTES : ℕ
MOST_BYTES = 1048576

-- what the folder told of the names when the call began
pub record Told : Type 0 where
  pub tells : Bool
  pub held : List ℕ → Option (List ℕ)

-- the text is what the folder holds under the name, where it tells that
abbrev pub IsContent : Told → List ℕ → List ℕ → Type 0
IsContent folder file text = IsTrue folder.tells → folder.held file ≡ Some text

abbrev pub IsReadFault : Told → (faults : Type 0) → (file gained said : List ℕ) → Type 0
IsReadFault folder faults file gained said =
    (faults ⊎ (IsTrue folder.tells × (folder.held file ≡ None))) × (gained ≡ []) × (said ≡ read_line file)

-- what the folder tells of the names when the call ends
abbrev pub Holding : Type 0
Holding = List ℕ → Option (List ℕ)

-- nothing was saved
abbrev pub IsUntouched : Told → Holding → Type 0
IsUntouched folder after = (name : List ℕ) → after name ≡ folder.held name

-- the bytes are saved under the name, if there is one
abbrev pub IsSaved : Told → Holding → Option (List ℕ) → (bytes : List ℕ) → Type 0
IsSaved folder after None bytes = Unit {0}
IsSaved folder after (Some name) bytes = IsTrue folder.tells → after name ≡ Some bytes

-- a name other than the one that bytes are saved under, if there is one
abbrev pub IsOther : Option (List ℕ) → (name : List ℕ) → Type 0
IsOther None name = Unit {0}
IsOther (Some out) name = name ≢ out

-- the name is text, if there is one
abbrev pub IsTextIfAny : Option (List ℕ) → Type 0
IsTextIfAny None = Unit {0}
IsTextIfAny (Some name) = IsUtf8 name

-- ---- statuses

-- words that are no command are answered by the usage line alone
pub record IsUsage (answer : Status) (gained said : List ℕ) : Type 0 where
  pub status_is : answer ≡ status.Usage
  pub gained_is : gained ≡ []
  pub said_is : said ≡ usage_line

-- ---- failed writes

abbrev pub IsPrefix : List ℕ → List ℕ → Type 0
IsPrefix front whole = (rest : List ℕ) × (whole ≡ front ++ rest)

-- where what was to be written was cut short
abbrev pub IsProperPrefix : List ℕ → List ℕ → Type 0
IsProperPrefix front whole = IsPrefix front whole × (length front < length whole)

-- a failed write takes the place of the status that would have been answered: on `out`, after which nothing
-- is said, or on `err`
abbrev pub IsCutShort : (faults_of_out faults_of_err : Type 0)
    → (wanted_gain wanted_words gained said : List ℕ) → Type 0
IsCutShort faults_of_out faults_of_err wanted_gain wanted_words gained said =
    (faults_of_out × IsProperPrefix gained wanted_gain × (said ≡ []))
    ⊎ (faults_of_err × (gained ≡ wanted_gain) × IsProperPrefix said wanted_words)

-- What each status means, with what `out` and `err` gained, where no write to these two failed.
abbrev pub Meaning : Type 1
Meaning = Status → (gained said : List ℕ) → Type 0

-- what is answered is meant so, or it was cut short
abbrev pub WholeOrCut : Meaning → (faults_of_out faults_of_err : Type 0) → Meaning
WholeOrCut means faults_of_out faults_of_err status.WriteFault gained said =
    means status.WriteFault gained said
    ⊎ ((answer : Status) × (wanted_gain : List ℕ) × (wanted_words : List ℕ)
    × means answer wanted_gain wanted_words
    × IsCutShort faults_of_out faults_of_err wanted_gain wanted_words gained said)
WholeOrCut means faults_of_out faults_of_err answer gained said = means answer gained said

-- a call answered so, from what the two sinks told before it to what they told after it
abbrev pub IsAnswered : Meaning → (faults_of_out faults_of_err : Type 0)
    → (out out' err err' : outside.Told) → Status → Type 0
IsAnswered means faults_of_out faults_of_err out out' err err' answer =
    (gained : List ℕ) × (said : List ℕ) × (out' ≡ told_after out gained) × (err' ≡ told_after err said)
    × WholeOrCut means faults_of_out faults_of_err answer gained said
