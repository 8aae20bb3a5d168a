-- The characters of a text, as the rules of tokens see them.
use Rattle.std.specs.Prelude.{ℕ, ◌-◌, Bool, true, false, ◌&&◌, ◌||◌, ◌==◌, nat_lt, List, [], ◌∷◌, length, Option, Some, None, codes, encode_utf8_all, if◌then◌else◌}
use Rattle.std.specs.Char.{digit_value}
use Rattle.unicode_ident.specs.Ident.{is_xid_start, is_xid_continue}

-- the Unicode scalars that are left of a text
abbrev pub Text : Type 0
Text = List ℕ

-- how many bytes they take in UTF-8
unfoldable pub bytes_of : Text → ℕ
bytes_of cs = length (encode_utf8_all cs)

-- the place, in bytes from 0, at which cs is what is left of a text of so many bytes
abbrev pub place : ℕ → Text → ℕ
place total cs = total - bytes_of cs

-- ---- tests on a character

-- LF, or CR
abbrev pub is_line_end : ℕ → Bool
is_line_end c = c == 10 || c == 13

-- a space, a tab or a line end
abbrev pub is_white : ℕ → Bool
is_white c = c == 32 || c == 9 || is_line_end c

-- `_`, or XID_Start of Unicode Standard Annex 31
abbrev pub starts_name : ℕ → Bool
starts_name c = c == 95 || is_xid_start c

abbrev pub continues_name : ℕ → Bool
continues_name c = is_xid_continue c

-- a digit of a base, in either case
abbrev pub is_digit : ℕ → ℕ → Bool
is_digit base c = nat_lt (digit_value c) base

abbrev pub is_quote : ℕ → Bool
is_quote c = c == 34

abbrev pub is_backslash : ℕ → Bool
is_backslash c = c == 92

-- ---- what is left

abbrev pub after : Text → Text
after [] = []
after (c ∷ cs) = cs

abbrev pub is_over : Text → Bool
is_over [] = true
is_over (c ∷ cs) = false

abbrev pub first : Text → Option ℕ
first [] = None
first (c ∷ cs) = Some c

-- whether the first character passes the test
abbrev pub first_is : (ℕ → Bool) → Text → Bool
first_is p [] = false
first_is p (c ∷ cs) = p c

-- the characters at the front that pass the test, and what follows them
unfoldable pub run : (ℕ → Bool) → Text → Text
run p [] = []
run p (c ∷ cs) = if p c then c ∷ run p cs else []

unfoldable pub past : (ℕ → Bool) → Text → Text
past p [] = []
past p (c ∷ cs) = if p c then past p cs else c ∷ cs

-- whether the text begins with these ASCII characters
abbrev pub begins : List ℕ → Text → Bool
begins [] cs = true
begins (b ∷ bs) [] = false
begins (b ∷ bs) (c ∷ cs) = c == b && begins bs cs

-- ---- comments

abbrev pub opens_line_comment : Text → Bool
opens_line_comment cs = begins (codes "//") cs

abbrev pub opens_comment : Text → Bool
opens_comment cs = begins (codes "/*") cs

abbrev pub closes_comment : Text → Bool
closes_comment cs = begins (codes "*/") cs
