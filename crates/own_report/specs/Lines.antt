-- What lines of the error output share.
use Rattle.std.specs.Prelude.{ℕ, List, [], ◌∷◌, ◌++◌, codes}
use Rattle.std.specs.Fmt.{decimal}
use Rattle.own_report.specs.declared.place.LineColumn.{LineColumn}

-- a text and the end of its line
abbrev pub line_of : List ℕ → List ℕ
line_of text = text ++ 10 ∷ []

-- a line and a column
abbrev pub place_pair : LineColumn → List ℕ
place_pair place = decimal place.line ++ codes ":" ++ decimal place.column

-- a place after what a line says already
abbrev pub place_after : List ℕ → LineColumn → List ℕ
place_after said place = said ++ codes ":" ++ decimal place.line ++ codes ":" ++ decimal place.column

-- ---- lines of refusals and findings

-- a code and what is said beside it
pub record Said : Type 0 where
  pub code : List ℕ
  pub text : List ℕ

abbrev pub said_as : (code text : List ℕ) → Said
said_as code text = record { code = code; text = text }

-- the beginning of a line that speaks of a place of a file
abbrev pub head_at : (file : List ℕ) → LineColumn → (code : List ℕ) → List ℕ
head_at file place code = file ++ codes ":" ++ place_pair place ++ codes ": error[" ++ code ++ codes "]: "
