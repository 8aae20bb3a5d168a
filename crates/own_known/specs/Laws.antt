-- What is proved of typed programs, for contracts to cite.
use Rattle.std.specs.Prelude.{◌≡◌, ◌↔◌, Bool, true}
use Rattle.own_tree.specs.Source.{File}
use Rattle.own_tree.specs.TypedSource.{TPat, Program}
use Rattle.own_shapes.specs.Types.{types_of}
use Rattle.own_table.specs.Table.{AreWhole}
use Rattle.own_match.specs.Values.{Matches}
use Rattle.own_runs.specs.Patterns.{matches}
use Rattle.own_runs.specs.Values.{Val, found}
use Rattle.own_judged.specs.Text.{text_of}
use Rattle.own_judged.specs.Typing.{Typing}
use Rattle.own_known.specs.Known.{ProgramKnown}
use Rattle.own_known.specs.Matching.{seen_value}

-- Where a run can say whether a value matches a pattern, it does so as coverage has it.
abbrev pub MatchingIsOne : Type 0
MatchingIsOne = (p : TPat) (v : Val) (b : Bool) → matches p v ≡ found b → b ≡ true ↔ Matches p (seen_value v)

-- Where the types of a text are whole, each program that it becomes is known: types are declared, names may be named
-- where they stand, places lie in their bindings, operands have the types that their operators ask for, calls fit their
-- targets, and each declared body stands under its number.
abbrev pub TypedProgramsAreKnown : Type 0
TypedProgramsAreKnown =
    (file : File) (program : Program) → AreWhole (types_of file) → Typing file program
    → ProgramKnown (text_of file) program
