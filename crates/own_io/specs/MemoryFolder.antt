-- What a folder in memory holds, and which of its calls fail.
use Rattle.std.specs.Prelude.{ℕ, ◌+◌, Bool, List, length, Option, option_map, Result, Ok, Err, if◌then◌else◌}
use Rattle.std.specs.List.{find}
use Rattle.std.specs.Str.{bytes_eq}
use Rattle.own_io.specs.declared.folder.LoadError.{LoadError}
use Rattle.own_io.specs.declared.folder.LoadError.TheVariants as load
use Rattle.own_io.specs.declared.memory_folder.File.{File}
use Rattle.own_io.specs.Outside.{cut}
use Rattle.own_io.specs.Plan.{is_listed}

-- the files, the numbers of the calls of load and save that fail, how many of these calls and how many
-- faults there were, and how many bytes the last load took
pub record Shelf : Type 0 where
  pub files : List File
  pub failing : List ℕ
  pub calls : ℕ
  pub faults : ℕ
  pub taken : ℕ

-- the content of the first file of this name
abbrev pub content_of : List File → List ℕ → Option (List ℕ)
content_of files name = option_map (λ file. file.content) (find (λ file. bytes_eq file.name name) files)

-- whether the next load or save is one of those that fail
abbrev pub fails_next : Shelf → Bool
fails_next folder = is_listed folder.failing (folder.calls + 1)

-- the folder when it has counted the next load or save, and the fault if it fails
abbrev pub counted : Shelf → Shelf
counted folder = record folder {
  calls = cut (folder.calls + 1);
  faults = if fails_next folder then cut (folder.faults + 1) else folder.faults;
}

-- how many bytes a load of this answer took: none but where it read the content
abbrev pub taken_by : Result (List ℕ) LoadError → ℕ
taken_by (Ok answer) = length answer
taken_by (Err load.Failed) = 0
taken_by (Err (load.TooLong number)) = number
taken_by (Err load.Memory) = 0
