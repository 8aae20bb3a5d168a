-- *Tokens*: the tokens of a text, by cases on the characters that are left of it.
use Rattle.std.specs.Prelude.{◌≡◌, ◌≢◌, ◌⊎◌, ℕ, zero, suc, ◌+◌, ◌*◌, ◌^◌, ◌<◌, ◌≤◌, Bool, true, false, not, ◌&&◌, ◌||◌, ◌==◌, List, [], ◌∷◌, length, drop, Option, Some, None, codes, encode_utf8_all, option_map, if◌then◌else◌}
use Rattle.std.specs.Char.{digit_value}
use Rattle.std.specs.Str.{all_scalars}
use lib.Utf8.{scalar}
use Rattle.own_tree.specs.declared.token.Token.{Token}
use Rattle.own_tree.specs.declared.token.Kind.{Kind}
use Rattle.own_tree.specs.declared.token.Kind.TheVariants as kind
use Rattle.own_tree.specs.declared.token.Word.{Word}
use Rattle.own_tree.specs.declared.token.Mark.{Mark}
use Rattle.own_tree.specs.declared.token.Mark.TheVariants as mark
use Rattle.own_tree.specs.Characters.{Text, place, is_line_end, is_white, starts_name, continues_name, is_digit, is_quote, is_backslash, after, is_over, first_is, run, past, begins, opens_line_comment, opens_comment, closes_comment}
use Rattle.own_tree.specs.Spelling.{word_text, mark_text}

-- ---- comments

-- What stands in a comment with so many comments round it, up to its end. The flags say whether a line has ended before and at the end.
pub data Comment : ℕ → Bool → Text → Bool → Text → Type 0 where
  ends : (line : Bool) (c d : ℕ) (to : Text) → closes_comment (c ∷ d ∷ to) ≡ true → Comment 0 line (c ∷ d ∷ to) line to
  closes : (n : ℕ) (line out : Bool) (c d : ℕ) (cs to : Text) → closes_comment (c ∷ d ∷ cs) ≡ true → Comment n line cs out to → Comment (suc n) line (c ∷ d ∷ cs) out to
  opens : (n : ℕ) (line out : Bool) (c d : ℕ) (cs to : Text) → closes_comment (c ∷ d ∷ cs) ≡ false → opens_comment (c ∷ d ∷ cs) ≡ true → Comment (suc n) line cs out to → Comment n line (c ∷ d ∷ cs) out to
  passes : (n : ℕ) (line out : Bool) (c d : ℕ) (cs to : Text) → closes_comment (c ∷ d ∷ cs) ≡ false → opens_comment (c ∷ d ∷ cs) ≡ false → Comment n (line || is_line_end c) (d ∷ cs) out to → Comment n line (c ∷ d ∷ cs) out to

-- ---- numbers

-- the base that the prefix at the front names
abbrev pub prefix : Text → Option ℕ
prefix cs = if begins (codes "0x") cs then Some 16 else (if begins (codes "0o") cs then Some 8 else (if begins (codes "0b") cs then Some 2 else None))

-- The base of the number that begins here, and its digits. A prefix is one only where a digit of its base follows.
abbrev pub prefixed : Option ℕ → Text → ℕ × Text
prefixed None cs = (10, cs)
prefixed (Some base) cs = if first_is (is_digit base) (after (after cs)) then (base, after (after cs)) else (10, cs)

abbrev pub digits : Text → ℕ × Text
digits cs = prefixed (prefix cs) cs

-- a digit of the base, or the separator `_`
abbrev pub in_number : ℕ → ℕ → Bool
in_number base c = is_digit base c || c == 95

-- the value of digits that follow a number of this value
abbrev pub value_after : ℕ → ℕ → Text → ℕ
value_after base n [] = n
value_after base n (c ∷ cs) = value_after base (if is_digit base c then n * base + digit_value c else n) cs

-- ---- escapes

-- the character that `\` and this one stand for
abbrev pub escaped : ℕ → Option ℕ
escaped c =
    if c == 110 then Some 10 else (if c == 116 then Some 9 else (if c == 114 then Some 13 else (if c == 48 then Some 0
    else (if c == 92 then Some 92 else (if c == 34 then Some 34 else (if c == 39 then Some 39 else None))))))

-- at most so many hexadecimal digits, after a number of this value: the value of all, and what follows
unfoldable pub hexadecimal : ℕ → ℕ → Text → ℕ × Text
hexadecimal zero n cs = (n, cs)
hexadecimal (suc k) n [] = (n, [])
hexadecimal (suc k) n (c ∷ cs) = if is_digit 16 c then hexadecimal k (n * 16 + digit_value c) cs else (n, c ∷ cs)

-- `{H}` after `\u`: one to eight digits that name a Unicode scalar
abbrev pub closed_scalar : ℕ × Text → Option (ℕ × Text)
closed_scalar x = if begins (codes "}") x.1 && scalar x.0 then Some (x.0, after x.1) else None

abbrev pub braced_scalar : Text → Option (ℕ × Text)
braced_scalar cs = if begins (codes "{") cs && first_is (is_digit 16) (after cs) then closed_scalar (hexadecimal 8 0 (after cs)) else None

abbrev pub simple_escape : Text → Option (ℕ × Text)
simple_escape [] = None
simple_escape (c ∷ cs) = option_map (λ x. (x, cs)) (escaped c)

-- the character that the escape stands for whose backslash was just read, and what follows
abbrev pub escape : Text → Option (ℕ × Text)
escape cs = if begins (codes "u") cs then braced_scalar (after cs) else simple_escape cs

-- the line or the text ends here
abbrev pub ends_line : Text → Bool
ends_line cs = is_over cs || first_is is_line_end cs

-- ---- flags

-- one of `( { , ; :`
abbrev pub is_opening : Mark → Bool
is_opening mark.OpenParen = true
is_opening mark.OpenBrace = true
is_opening mark.Comma = true
is_opening mark.Semicolon = true
is_opening mark.Colon = true
is_opening m = false

-- what follows the token right after it has space before
abbrev pub gives_space : Kind → Bool
gives_space (kind.Mark m) = is_opening m
gives_space k = false

-- white space, a comment, the end of the text, or one of `) } , ; :`
abbrev pub has_space : Text → Bool
has_space cs = is_over cs || first_is is_white cs || opens_line_comment cs || opens_comment cs
    || begins (codes ")") cs || begins (codes "}") cs || begins (codes ",") cs || begins (codes ";") cs || begins (codes ":") cs

-- the token of this kind from `from` to `to` in a text of so many bytes
abbrev pub token_of : ℕ → Kind → Text → Text → Bool → Bool → Token
token_of total kind from to space line =
    record { kind = kind; span = record { start = place total from; end = place total to }; space_before = space; space_after = has_space to; line_before = line }

-- ---- tokens

-- What is spelled from `from` to `to` by a start character and the continue characters after it.
abbrev pub Spelled : List ℕ → Text → Text → Type 0
Spelled name [] to = ⊥
Spelled name (c ∷ cs) to = (starts_name c ≡ true) × (name ≡ encode_utf8_all (c ∷ run continues_name cs)) × (to ≡ past continues_name cs)

-- The value of the digits at the front.
abbrev pub value_of : Text → ℕ
value_of from = value_after (digits from).0 0 (run (in_number (digits from).0) (digits from).1)

abbrev pub after_number : Text → Text
after_number from = past (in_number (digits from).0) (digits from).1

-- A number without a name character right after it.
pub record Counted (n : ℕ) (from to : Text) : Type 0 where
  pub starts : first_is (is_digit 10) from ≡ true
  pub value : n ≡ value_of from
  pub fits : n ≤ 2 ^ 63
  pub stops : to ≡ after_number from
  pub apart : first_is continues_name to ≡ false

-- The characters of a text from after its first quote to its last one.
pub data Body : Text → Text → Text → Type 0 where
  closed : (c : ℕ) (to : Text) → is_quote c ≡ true → Body (c ∷ to) [] to
  plain : (c : ℕ) (cs s to : Text) → is_quote c ≡ false → is_backslash c ≡ false → is_line_end c ≡ false → Body cs s to → Body (c ∷ cs) (c ∷ s) to
  escaping : (c d : ℕ) (cs mid s to : Text) → is_backslash c ≡ true → ends_line cs ≡ false → escape cs ≡ Some (d, mid) → Body mid s to → Body (c ∷ cs) (d ∷ s) to

-- A text from after its first quote that its line or the file ends first, or that has a wrong escape before: where.
pub data Unclosed : Text → Option Text → Type 0 where
  cut : (cs : Text) → ends_line cs ≡ true → Unclosed cs None
  cut_escape : (c : ℕ) (cs : Text) → is_backslash c ≡ true → ends_line cs ≡ true → Unclosed (c ∷ cs) None
  wrong : (c : ℕ) (cs : Text) → is_backslash c ≡ true → ends_line cs ≡ false → escape cs ≡ None → Unclosed (c ∷ cs) (Some (c ∷ cs))
  goes_plain : (c : ℕ) (cs : Text) (at : Option Text) → is_quote c ≡ false → is_backslash c ≡ false → is_line_end c ≡ false → Unclosed cs at → Unclosed (c ∷ cs) at
  goes_escaping : (c d : ℕ) (cs mid : Text) (at : Option Text) → is_backslash c ≡ true → ends_line cs ≡ false → escape cs ≡ Some (d, mid) → Unclosed mid at → Unclosed (c ∷ cs) at

-- The mark at the front, where no longer one and no comment begins. After `_` no name goes on.
pub record Marked (m : Mark) (from to : Text) : Type 0 where
  pub begin : begins (mark_text m) from ≡ true
  pub longest : (other : Mark) → begins (mark_text other) from ≡ true → length (mark_text other) ≤ length (mark_text m)
  pub stops : to ≡ drop (length (mark_text m)) from
  pub no_line_comment : opens_line_comment from ≡ false
  pub no_comment : opens_comment from ≡ false
  pub alone : first_is starts_name from ≡ true → first_is continues_name to ≡ false

-- A token of this kind stands from `from` to `to`.
abbrev pub Lexeme : Kind → Text → Text → Type 0
Lexeme (kind.Name name) from to = Spelled name from to × (name ≢ codes "_") × ((w : Word) → name ≢ word_text w)
Lexeme (kind.Word w) from to = Spelled (word_text w) from to
Lexeme (kind.Number n) from to = Counted n from to
Lexeme (kind.Text bytes) from to = (s : Text) × (first_is is_quote from ≡ true) × Body (after from) s to × (bytes ≡ encode_utf8_all s)
Lexeme (kind.Mark m) from to = Marked m from to

-- ---- faults, each with what is left of the text at it

pub data Fault : Type 0 where
  BadChar : Text → Fault
  OpenComment : Text → Fault
  OpenText : Text → Fault
  WideNumber : Text → Fault

-- The first character begins nothing.
pub record Alien (from : Text) : Type 0 where
  pub is_there : is_over from ≡ false
  pub no_white : first_is is_white from ≡ false
  pub no_name : first_is starts_name from ≡ false
  pub no_number : first_is (is_digit 10) from ≡ false
  pub no_text : first_is is_quote from ≡ false
  pub no_mark : (m : Mark) → begins (mark_text m) from ≡ false

-- A name character stands right after a number.
pub record Joined (from at : Text) : Type 0 where
  pub starts : first_is (is_digit 10) from ≡ true
  pub fits : value_of from ≤ 2 ^ 63
  pub stops : at ≡ after_number from
  pub joins : first_is continues_name at ≡ true

-- No token stands at `from`, for this reason.
abbrev pub Breaks : Fault → Text → Type 0
Breaks (BadChar at) from = ((at ≡ from) × Alien from) ⊎ (Joined from at ⊎ ((first_is is_quote from ≡ true) × Unclosed (after from) (Some at)))
Breaks (OpenComment at) from = (at ≡ from) × (opens_comment from ≡ true) × ((line : Bool) (to : Text) → Comment 0 false (after (after from)) line to → ⊥)
Breaks (OpenText at) from = (at ≡ from) × (first_is is_quote from ≡ true) × Unclosed (after from) None
Breaks (WideNumber at) from = (at ≡ from) × (first_is (is_digit 10) from ≡ true) × (2 ^ 63 < value_of from)

-- ---- the tokens of a text

-- How the reading of a text ends: at its end, at a fault, or before a token that is not read any more.
pub data Ending : Type 0 where
  Done : Ending
  Broken : Fault → Ending
  Stopped : Text → Ending

-- The tokens of what is left of a text of so many bytes, and how they end. The flags are those of the next token.
pub data Lexes (total : ℕ) : Bool → Bool → Text → List Token → Ending → Type 0 where
  over : (space line : Bool) → Lexes total space line [] [] Done
  white : (space line : Bool) (c : ℕ) (cs : Text) (ts : List Token) (e : Ending) → is_white c ≡ true → Lexes total true (line || is_line_end c) cs ts e → Lexes total space line (c ∷ cs) ts e
  line_comment : (space line : Bool) (cs : Text) (ts : List Token) (e : Ending) → opens_line_comment cs ≡ true → Lexes total true line (past (λ c. not (is_line_end c)) (after (after cs))) ts e → Lexes total space line cs ts e
  comment : (space line ends : Bool) (cs to : Text) (ts : List Token) (e : Ending) → opens_comment cs ≡ true → Comment 0 false (after (after cs)) ends to → Lexes total true (line || ends) to ts e → Lexes total space line cs ts e
  token : (space line : Bool) (k : Kind) (cs to : Text) (ts : List Token) (e : Ending) → Lexeme k cs to → Lexes total (gives_space k) false to ts e → Lexes total space line cs (token_of total k cs to space line ∷ ts) e
  breaks : (space line : Bool) (f : Fault) (cs : Text) → Breaks f cs → Lexes total space line cs [] (Broken f)
  stops : (space line : Bool) (k : Kind) (cs to : Text) → Lexeme k cs to → Lexes total space line cs [] (Stopped cs)

-- without a byte order mark at the front
abbrev pub after_mark : Text → Text
after_mark cs = if first_is (λ c. c == 0xFEFF) cs then after cs else cs

-- The bytes are UTF-8, and from their start these tokens are read, up to this ending.
abbrev pub Reads : List ℕ → List Token → Ending → Type 0
Reads bytes tokens e = (cs : Text) × (all_scalars cs ≡ true) × (encode_utf8_all cs ≡ bytes) × Lexes (length bytes) true false (after_mark cs) tokens e

-- The tokens of a text.
abbrev pub Tokens : List ℕ → List Token → Type 0
Tokens text tokens = Reads text tokens Done
