-- What is proved of runs, for contracts to cite.
use Rattle.std.specs.Prelude.{◌≡◌, ℕ, ℤ, List}
use Rattle.own_tree.specs.declared.place.Ty.{Ty}
use Rattle.own_tree.specs.Source.{File}
use Rattle.own_tree.specs.TypedSource.{Program}
use Rattle.own_shapes.specs.Types.{types_of}
use Rattle.own_table.specs.Table.{AreWhole}
use Rattle.own_judged.specs.Text.{Text, text_of}
use Rattle.own_judged.specs.Typing.{Typing}
use Rattle.own_known.specs.Known.{ProgramKnown}
use Rattle.own_runs.specs.Run.{Cut, run_of}
use Rattle.own_steady.specs.Programs.{AreBasic, ParamsWritten, ProgramSteady, NeverStrays, OutOfTurns}

-- No run of a program strays that is known and steady, for every input and number of turns.
abbrev pub SteadyProgramsDoNotStray : Type 0
SteadyProgramsDoNotStray =
    (text : Text) (program : Program) (node_type : ℕ → Ty) (outer : ℕ → List ℕ) → AreBasic text.types
    → AreWhole text.types → ProgramKnown text program → ParamsWritten text program
    → ProgramSteady text program node_type outer → NeverStrays text.types program

-- So each run of it ends, traps, touches a hole, or has used up its turns.
abbrev pub OnlyTurnsCutRuns : Type 0
OnlyTurnsCutRuns =
    (text : Text) (program : Program) (node_type : ℕ → Ty) (outer : ℕ → List ℕ) → AreBasic text.types
    → AreWhole text.types → ProgramKnown text program → ParamsWritten text program
    → ProgramSteady text program node_type outer → (input : List ℤ) (turns : ℕ)
    → (run_of text.types program input turns).outcome ≡ Cut → OutOfTurns text.types program input turns

-- Of a program that a text becomes it is enough that it is steady.
abbrev pub TypedProgramsDoNotStray : Type 0
TypedProgramsDoNotStray =
    (file : File) (program : Program) (node_type : ℕ → Ty) (outer : ℕ → List ℕ) → AreWhole (types_of file)
    → Typing file program → ProgramSteady (text_of file) program node_type outer
    → NeverStrays (types_of file) program
