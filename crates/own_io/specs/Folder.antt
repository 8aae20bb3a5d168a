-- The answers of a folder, case by case.
use Rattle.std.specs.Prelude.{ℕ, ◌≡◌, ◌<◌, ◌≤◌, List, length, Option, Some, Result, Ok, Err, IsSomeAnd}
use Rattle.own_io.specs.declared.folder.LoadError.{LoadError}
use Rattle.own_io.specs.declared.folder.LoadError.TheVariants as load
use Rattle.own_io.specs.declared.folder.SaveError.{SaveError}
use Rattle.own_io.specs.declared.folder.SaveError.TheVariants as save

-- the fact holds where a load failed
abbrev pub OnLoadFailed : Result (List ℕ) LoadError → Type 0 → Type 0
OnLoadFailed (Ok answer) P = Unit {0}
OnLoadFailed (Err load.Failed) P = P
OnLoadFailed (Err (load.TooLong number)) P = Unit {0}
OnLoadFailed (Err load.Memory) P = Unit {0}

-- an answer is as long as the number of bytes taken, and `TooLong` comes exactly where more than `most`
-- were taken, with their number
abbrev pub TellsTaken : Result (List ℕ) LoadError → (most taken : ℕ) → Type 0
TellsTaken (Ok answer) most taken = (length answer ≡ taken) × (taken ≤ most)
TellsTaken (Err load.Failed) most taken = taken ≤ most
TellsTaken (Err (load.TooLong number)) most taken = (number ≡ taken) × (most < taken)
TellsTaken (Err load.Memory) most taken = taken ≤ most

-- what the answer says of the content of the name: an answer is the whole of it, and `TooLong` means
-- that it is longer than `most`
abbrev pub TellsContent : Result (List ℕ) LoadError → (most : ℕ) → Option (List ℕ) → Type 0
TellsContent (Ok answer) most content = content ≡ Some answer
TellsContent (Err load.Failed) most content = Unit {0}
TellsContent (Err (load.TooLong number)) most content = IsSomeAnd content (λ bytes. most < length bytes)
TellsContent (Err load.Memory) most content = Unit {0}

-- the fact holds where a save failed
abbrev pub OnSaveFailed : Result Unit SaveError → Type 0 → Type 0
OnSaveFailed (Ok done) P = Unit {0}
OnSaveFailed (Err save.Failed) P = P
OnSaveFailed (Err save.Memory) P = Unit {0}

-- the fact holds where a save was refused memory
abbrev pub OnSaveMemory : Result Unit SaveError → Type 0 → Type 0
OnSaveMemory (Ok done) P = Unit {0}
OnSaveMemory (Err save.Failed) P = Unit {0}
OnSaveMemory (Err save.Memory) P = P
