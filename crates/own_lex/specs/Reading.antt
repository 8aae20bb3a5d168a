-- The tokens of a text as a function of it, read from left to right up to the first fault.
use Rattle.std.specs.Prelude.{◌≡◌, ℕ, zero, suc, ◌+◌, ◌*◌, ◌^◌, Bool, true, false, not, ◌||◌, ◌==◌, nat_le, List, [], ◌∷◌, ◌++◌, length, drop, map, Option, Some, None, Result, Ok, Err, codes, bytes_eq, if◌then◌else◌}
use Rattle.std.specs.Char.{digit_value, encode_utf8}
use Rattle.own_tree.specs.declared.limits.TheConstants.{MOST_TOKENS}
use Rattle.own_tree.specs.declared.token.Token.{Token}
use Rattle.own_tree.specs.declared.token.Kind.{Kind}
use Rattle.own_tree.specs.declared.token.Kind.TheVariants as kind
use Rattle.own_tree.specs.declared.token.Word.{Word}
use Rattle.own_tree.specs.declared.token.Mark.{Mark}
use Rattle.own_tree.specs.declared.token.Mark.TheVariants as mark
use Rattle.own_tree.specs.Characters.{Text, bytes_of, is_line_end, is_white, starts_name, continues_name, is_digit, is_backslash, after, is_over, first_is, past, begins, opens_line_comment, opens_comment, closes_comment}
use Rattle.own_tree.specs.Tokens.{digits, in_number, escape, ends_line, gives_space, token_of}
use Rattle.own_lex.specs.declared.fault.Fault.{Fault}
use Rattle.own_lex.specs.declared.fault.Fault.TheVariants as fault
use Rattle.own_lex.specs.declared.word.TheConstants.{WORDS}
use Rattle.own_lex.specs.declared.mark.TheConstants.{MARKS}

abbrev pub Bytes : Type 0
Bytes = List ℕ

-- what is read, or the first fault, which is never want of memory
abbrev pub Read : Type 0 → Type 0
Read A = Result A Fault

infixl 10 ◌>>=◌
abbrev pub ◌>>=◌ : {A B : Type 0} → Read A → (A → Read B) → Read B
(Ok x) >>= f = f x
(Err e) >>= f = Err e

abbrev pub on_some : {A B : Type 0} → Option A → (A → B) → B → B
on_some (Some x) f b = f x
on_some None f b = b

-- what a call gives that may also want memory
abbrev pub Fails : {A : Type 0} → Fault → Read A → Type 0
Fails fault.Memory read = Unit {0}
Fails e read = read ≡ Err e

abbrev pub Gives : {A B : Type 0} → (A → B) → Read A → Read B → Type 0
Gives view (Ok x) read = read ≡ Ok (view x)
Gives view (Err e) read = Fails e read

-- ---- white space and comments

-- after the end of a comment, within so many outer ones; and whether a line ends in it
unfoldable pub comment_end : ℕ → Bool → Text → Option (Bool × Text)
comment_end n line [] = None
comment_end n line (c ∷ []) = None
comment_end zero line (c ∷ d ∷ cs) = if closes_comment (c ∷ d ∷ cs) then Some (line, cs) else (if opens_comment (c ∷ d ∷ cs) then comment_end 1 line cs else comment_end zero (line || is_line_end c) (d ∷ cs))
comment_end (suc n) line (c ∷ d ∷ cs) = if closes_comment (c ∷ d ∷ cs) then comment_end n line cs else (if opens_comment (c ∷ d ∷ cs) then comment_end (suc (suc n)) line cs else comment_end (suc n) (line || is_line_end c) (d ∷ cs))

-- whether a line ends in it, and what follows
abbrev pub Blank : Type 0
Blank = Bool × Text

-- the white space or the comment at the front, if there is one
unfoldable pub blank_at : Text → Read (Option Blank)
blank_at cs =
    if first_is is_white cs then Ok (Some (first_is is_line_end cs, after cs))
    else (if opens_line_comment cs then Ok (Some (false, past (λ c. not (is_line_end c)) (after (after cs))))
    else (if opens_comment cs then on_some (comment_end 0 false (after (after cs))) (λ x. Ok (Some x)) (Err (fault.OpenComment (bytes_of cs)))
    else Ok None))

-- ---- names and words

abbrev pub lookup : List (Bytes × Word) → Bytes → Option Word
lookup [] name = None
lookup (e ∷ es) name = if bytes_eq e.0 name then Some e.1 else lookup es name

unfoldable pub word_of : Bytes → Option Word
word_of = lookup (map (λ e. (e.0.now, e.1)) WORDS)

abbrev pub word_or_name : Option Word → Bytes → Kind
word_or_name (Some w) name = kind.Word w
word_or_name None name = kind.Name name

unfoldable pub named : Bytes → Kind
named name = if bytes_eq name (codes "_") then kind.Mark mark.Underscore else word_or_name (word_of name) name

-- the bytes of the name that goes on here after these bytes, and what follows
unfoldable pub name_on : Bytes → Text → Bytes × Text
name_on found [] = (found, [])
name_on found (c ∷ cs) = if continues_name c then name_on (found ++ encode_utf8 c) cs else (found, c ∷ cs)

abbrev pub name_of : Bytes × Text → Kind × Text
name_of x = (named x.0, x.1)

unfoldable pub name_at : Text → Read (Kind × Text)
name_at [] = Err (fault.BadChar (bytes_of []))
name_at (c ∷ cs) = Ok (name_of (name_on (encode_utf8 c) cs))

-- ---- numbers

-- a value that is small enough
abbrev pub within : ℕ → Option ℕ
within n = if nat_le n (2 ^ 63) then Some n else None

abbrev pub grown : ℕ → Option ℕ → ℕ → Option ℕ
grown base None d = None
grown base (Some n) d = within (n * base + d)

-- the value with one character more
abbrev pub with_digit : ℕ → Option ℕ → ℕ → Option ℕ
with_digit base n c = if is_digit base c then grown base n (digit_value c) else n

unfoldable pub number_on : ℕ → Option ℕ → Text → Option ℕ × Text
number_on base n [] = (n, [])
number_on base n (c ∷ cs) = if in_number base c then number_on base (with_digit base n c) cs else (n, c ∷ cs)

abbrev pub number_end : Text → Option ℕ × Text → Read (Kind × Text)
number_end from (None, to) = Err (fault.WideNumber (bytes_of from))
number_end from (Some n, to) = if first_is continues_name to then Err (fault.BadChar (bytes_of to)) else Ok (kind.Number n, to)

unfoldable pub number_at : Text → Read (Kind × Text)
number_at cs = number_end cs (number_on (digits cs).0 (Some 0) (digits cs).1)

-- ---- texts

-- the hexadecimal digit at the front
abbrev pub digit_at : Text → Option ℕ
digit_at [] = None
digit_at (c ∷ cs) = if is_digit 16 c then Some (digit_value c) else None

abbrev pub or_bad : Text → Option (ℕ × Text) → Read (ℕ × Text)
or_bad cs (Some x) = Ok x
or_bad cs None = Err (fault.BadChar (bytes_of cs))

-- the next character of a text, before whose first quote so many bytes were left
unfoldable pub character_at : ℕ → Text → Read (ℕ × Text)
character_at start [] = Err (fault.OpenText start)
character_at start (c ∷ cs) =
    if is_line_end c then Err (fault.OpenText start)
    else (if is_backslash c then (if ends_line cs then Err (fault.OpenText start) else or_bad (c ∷ cs) (escape cs))
    else Ok (c, cs))

-- `k` reads what stands after at least one character
abbrev pub text_step : (Bytes → Text → Read (Bytes × Text)) → ℕ → Bytes → Text → Read (Bytes × Text)
text_step k start found cs = if begins (codes "\"") cs then Ok (found, after cs) else character_at start cs >>= λ x. k (found ++ encode_utf8 x.0) x.1

unfoldable pub text_within : ℕ → ℕ → Bytes → Text → Read (Bytes × Text)
text_within zero start found cs = Err (fault.OpenText start)
text_within (suc n) start found cs = text_step (text_within n start) start found cs

-- the rest of a text after these bytes of it
unfoldable pub text_on : ℕ → Bytes → Text → Read (Bytes × Text)
text_on start found cs = text_within (suc (length cs)) start found cs

unfoldable pub text_at : Text → Read (Kind × Text)
text_at cs = text_on (bytes_of cs) [] (after cs) >>= λ x. Ok (kind.Text x.0, x.1)

-- ---- marks

abbrev pub first_mark : List (Bytes × Mark) → Text → Option (Mark × Text)
first_mark [] cs = None
first_mark (e ∷ es) cs = if begins e.0 cs then Some (e.1, drop (length e.0) cs) else first_mark es cs

unfoldable pub longest_mark : Text → Option (Mark × Text)
longest_mark = first_mark (map (λ e. (e.0.now, e.1)) MARKS)

unfoldable pub mark_at : Text → Read (Kind × Text)
mark_at cs = on_some (longest_mark cs) (λ x. Ok (kind.Mark x.0, x.1)) (Err (fault.BadChar (bytes_of cs)))

-- ---- the tokens

-- the token at the front
unfoldable pub token_at : Text → Read (Kind × Text)
token_at cs =
    if first_is starts_name cs then name_at cs
    else (if first_is (is_digit 10) cs then number_at cs
    else (if begins (codes "\"") cs then text_at cs
    else mark_at cs))

-- the tokens of what is left, after these tokens, with the flags of the next one
abbrev pub Reader : Type 0
Reader = List Token → Bool → Bool → Text → Read (List Token)

unfoldable pub token_step : Reader → ℕ → Reader
token_step k total found space line cs =
    token_at cs >>= λ t. if length found == MOST_TOKENS then Err (fault.TooManyTokens (bytes_of cs))
    else k (found ++ token_of total t.0 cs t.1 space line ∷ []) (gives_space t.0) false t.1

unfoldable pub lex_step : Reader → ℕ → Reader
lex_step k total found space line cs =
    if is_over cs then Ok found
    else (blank_at cs >>= λ b. on_some b (λ x. k found true (line || x.0) x.1) (token_step k total found space line cs))

unfoldable pub lex_within : ℕ → ℕ → Reader
lex_within zero total found space line cs = Ok found
lex_within (suc n) total found space line cs = lex_step (lex_within n total) total found space line cs

unfoldable pub lex_on : ℕ → Reader
lex_on total found space line cs = lex_within (suc (length cs)) total found space line cs
