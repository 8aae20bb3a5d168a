-- *Typing*: which program a text becomes, and which judgement is false of one that becomes none.
use Rattle.std.specs.Prelude.{◌≡◌, ℕ, Option, Some, None, Result, Ok, Err}
use Rattle.own_tree.specs.Source.{File}
use Rattle.own_tree.specs.TypedSource.{Program}
use Rattle.own_survey.specs.Parts.{MAIN}
use Rattle.own_judging.specs.Made.{Made, nothing_made, Fault, Found}
use Rattle.own_judging.specs.Judged.{Judged}
use Rattle.own_judged.specs.Bodies.{bodies}
use Rattle.own_judged.specs.Text.{Text, Callable, text_of}

-- all bodies of a text, from the first declaration on
abbrev pub all_bodies : File → Judged (Unit {0})
all_bodies file = bodies (text_of file) 0 file.declarations

abbrev pub main_number : Option Callable → ℕ
main_number None = 0
main_number (Some c) = c.body

-- the program, by what has been made of the text
abbrev pub program_of : Text → File → Made → Program
program_of text file s = record {
  bodies = s.bodies;
  bindings = s.bindings;
  signatures = text.signatures;
  main = main_number (text.function MAIN);
  tokens = file.tokens;
}

-- The program has the shape of the text, and each judgement holds at each of its nodes.
abbrev pub Typing : File → Program → Type 0
Typing file p = (s : Made) × (all_bodies file).holds nothing_made tt s × (p ≡ program_of (text_of file) file s)

-- That judgement on the bodies of the text is false, where all that come before it hold.
abbrev pub IsFalse : File → Fault → Type 0
IsFalse file f = (all_bodies file).fails nothing_made f

-- ---- a function that finds out

abbrev pub as_program : File → Found (Unit {0}) → Result Program Fault
as_program file (Ok x) = Ok (program_of (text_of file) file x.1)
as_program file (Err f) = Err f

-- the program, or the first judgement that is false
unfoldable pub typed : File → Result Program Fault
typed file = as_program file ((all_bodies file).run nothing_made)
