-- What is said of a text that has no tokens or no tree.
use Rattle.std.specs.Prelude.{codes}
use Rattle.own_report.specs.Lines.{Said, said_as}

abbrev pub not_utf8 : Said
not_utf8 = said_as (codes "X1") (codes "not UTF-8")

abbrev pub bad_char : Said
bad_char = said_as (codes "X2") (codes "unexpected character")

abbrev pub open_comment : Said
open_comment = said_as (codes "X3") (codes "comment is not closed")

abbrev pub open_text : Said
open_text = said_as (codes "X4") (codes "text is not closed")

abbrev pub wide_number : Said
wide_number = said_as (codes "X5") (codes "number is too wide")

abbrev pub syntax_fault : Said
syntax_fault = said_as (codes "S1") (codes "syntax")
