-- The lines of refusals.
use Rattle.std.specs.Prelude.{ℕ, List, [], ◌++◌, codes}
use Rattle.std.specs.Fmt.{decimal}
use Rattle.own_tree.specs.declared.error.LexError.{LexError}
use Rattle.own_tree.specs.declared.error.LexError.TheVariants as lex_error
use Rattle.own_tree.specs.declared.error.ParseError.{ParseError}
use Rattle.own_tree.specs.declared.error.ParseError.TheVariants as parse_error
use Rattle.own_tree.specs.declared.refusal.LimitKind.TheVariants as limit
use Rattle.own_tree.specs.declared.refusal.Refusal.{Refusal}
use Rattle.own_tree.specs.declared.refusal.Refusal.TheVariants as refusal
use Rattle.own_report.specs.Place.{place_at}
use Rattle.own_report.specs.declared.place.LineColumn.{LineColumn}
use Rattle.own_report.specs.Lines.{Said, head_at, line_of}
use Rattle.own_report.specs.Lexing.{not_utf8, bad_char, open_comment, open_text, wide_number, syntax_fault}
use Rattle.own_report.specs.Limits.{limit_said}
use Rattle.own_report.specs.Typing.{typing_said}

-- what is said of a place, alone and with what it is about after it
abbrev pub said_line : (file : List ℕ) → LineColumn → Said → List ℕ
said_line file place said = head_at file place said.code ++ said.text ++ line_of []

abbrev pub said_line_of : (file : List ℕ) → LineColumn → Said → (about : List ℕ) → List ℕ
said_line_of file place said about = head_at file place said.code ++ said.text ++ about ++ line_of []

-- of the place of an offset of a text
abbrev pub said_at : (file text : List ℕ) → (at : ℕ) → Said → List ℕ
said_at file text at said = said_line file (place_at text at) said

abbrev pub bytes_line : (file : List ℕ) → (count : ℕ) → List ℕ
bytes_line file count = file ++ codes ": error[M1]: text bytes: " ++ decimal count ++ line_of []

-- M1 has no place; M2 and M3 are told without their counts. Want of memory is no refusal of a text.
abbrev pub lex_line : (file text : List ℕ) → LexError → List ℕ
lex_line file text (lex_error.TooLong bytes) = bytes_line file bytes
lex_line file text (lex_error.NotUtf8 at) = said_at file text at not_utf8
lex_line file text (lex_error.BadChar at) = said_at file text at bad_char
lex_line file text (lex_error.OpenComment at) = said_at file text at open_comment
lex_line file text (lex_error.OpenText at) = said_at file text at open_text
lex_line file text (lex_error.WideNumber at) = said_at file text at wide_number
lex_line file text (lex_error.TooManyTokens at) = said_at file text at (limit_said limit.Tokens)
lex_line file text lex_error.Memory = []

abbrev pub parse_line : (file text : List ℕ) → (at : ℕ) → ParseError → List ℕ
parse_line file text at (parse_error.Syntax token) = said_at file text at syntax_fault
parse_line file text at (parse_error.Depth token) = said_at file text at (limit_said limit.Nesting)
parse_line file text at parse_error.Memory = []

-- what follows the name of a limit, and the text of a `switch` that leaves out a form
abbrev pub count_text : ℕ → List ℕ
count_text count = codes ": " ++ decimal count

abbrev pub form_text : (form : List ℕ) → List ℕ
form_text form = codes " " ++ form

-- a refusal of a text, in a line of its own
abbrev pub refusal_line : (file text : List ℕ) → Refusal → List ℕ
refusal_line file text (refusal.Lex e) = lex_line file text e
refusal_line file text (refusal.Parse e at) = parse_line file text at e
refusal_line file text (refusal.BadType code at) = said_at file text at.start (typing_said code)
refusal_line file text (refusal.Uncovered at form) = said_line_of file (place_at text at.start) (typing_said 20) (form_text form)
refusal_line file text (refusal.Limit which count at) = said_line_of file (place_at text at.start) (limit_said which) (count_text count)
