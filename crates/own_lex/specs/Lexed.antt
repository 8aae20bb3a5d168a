-- What `lex` answers, as a function of the bytes of a text.
use Rattle.std.specs.Prelude.{◌≡◌, ℕ, ◌-◌, true, false, nat_lt, List, [], length, chars, Result, Ok, Err, if◌then◌else◌}
use Rattle.std.specs.Str.{is_utf8}
use Rattle.std.specs.Str.Lossy.{utf8_valid_len}
use Rattle.own_tree.specs.declared.limits.TheConstants.{MOST_TEXT_BYTES}
use Rattle.own_tree.specs.declared.token.Token.{Token}
use Rattle.own_tree.specs.Characters.{Text}
use Rattle.own_tree.specs.Tokens.{after_mark}
use Rattle.own_tree.specs.declared.error.LexError.{LexError}
use Rattle.own_tree.specs.declared.error.LexError.TheVariants as error
use Rattle.own_lex.specs.declared.fault.Fault.{Fault}
use Rattle.own_lex.specs.declared.fault.Fault.TheVariants as fault
use Rattle.own_lex.specs.Reading.{Bytes, lex_on}

-- the answer, but for want of memory
abbrev pub Gives : Result (List Token) LexError → Result (List Token) LexError → Type 0
Gives (Err error.Memory) answer = Unit {0}
Gives result answer = result ≡ answer

-- a fault in a text of so many bytes
abbrev pub placed : ℕ → Fault → LexError
placed total fault.Memory = error.Memory
placed total (fault.BadChar left) = error.BadChar (total - left)
placed total (fault.OpenComment left) = error.OpenComment (total - left)
placed total (fault.OpenText left) = error.OpenText (total - left)
placed total (fault.WideNumber left) = error.WideNumber (total - left)
placed total (fault.TooManyTokens left) = error.TooManyTokens (total - left)

abbrev pub in_place : ℕ → Result (List Token) Fault → Result (List Token) LexError
in_place total (Ok tokens) = Ok tokens
in_place total (Err f) = Err (placed total f)

abbrev pub lexed_chars : ℕ → Text → Result (List Token) LexError
lexed_chars total cs = in_place total (lex_on total [] true false (after_mark cs))

abbrev pub lexed : Bytes → Result (List Token) LexError
lexed bytes =
    if nat_lt MOST_TEXT_BYTES (length bytes) then Err (error.TooLong (length bytes))
    else (if is_utf8 bytes then lexed_chars (length bytes) (chars bytes) else Err (error.NotUtf8 (utf8_valid_len bytes)))
