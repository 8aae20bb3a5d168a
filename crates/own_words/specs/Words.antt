-- The words of the command line that are a command.
use Rattle.std.specs.Prelude.{◌≡◌, ◌≢◌, ◌<◌, ◌≤◌, ◌^◌, ⊤, ◌==◌, not, ℕ, ℤ, Bool, true, false, if◌then◌else◌}
use Rattle.std.specs.Prelude.{List, [], ◌∷◌, ◌++◌, length, codes, Option, Some, None, FitsSigned}
use Rattle.std.specs.Str.Parse.{IsNumeral, digits_value, signed_digits_value}
use Rattle.std.specs.Str.Parse.{without_leading_plus, without_leading_sign}
use Rattle.own_tree.specs.declared.command.Command.{Command}
use Rattle.own_tree.specs.declared.command.Command.TheVariants as command
use mir.Syntax.{w64}

abbrev pub Text : Type 0
Text = List ℕ

-- ---- the words after the first, read from left to right

-- a plain word, or an option with its value: in the next word, or in its own word behind `=` or
-- right behind `-o`
pub data Part : Type 0 where
  plain : Text → Part
  steps_next : Text → Part
  steps_joined : Text → Part
  out_next : Text → Part
  out_joined : Text → Part
  trace : Part

-- the word does not begin with `-` (45), or is `-` alone
abbrev pub is_plain : Text → Bool
is_plain [] = true
is_plain (b ∷ []) = true
is_plain (b ∷ c ∷ rest) = not (b == 45)

abbrev pub IsPart : Part → Type 0
IsPart (plain word) = is_plain word ≡ true
IsPart (steps_next value) = is_plain value ≡ true
IsPart (steps_joined value) = ⊤
IsPart (out_next value) = is_plain value ≡ true
IsPart (out_joined value) = value ≢ []
IsPart trace = ⊤

-- the words of a part, and those that follow it
abbrev pub written : Part → List Text → List Text
written (plain word) rest = word ∷ rest
written (steps_next value) rest = codes "--steps" ∷ value ∷ rest
written (steps_joined value) rest = (codes "--steps=" ++ value) ∷ rest
written (out_next value) rest = codes "-o" ∷ value ∷ rest
written (out_joined value) rest = (codes "-o" ++ value) ∷ rest
written trace rest = codes "--trace" ∷ rest

-- parts, and after the first `--` plain words, whatever they begin with
pub record Line : Type 0 where
  pub parts : List Part
  pub behind : Option (List Text)

abbrev pub behind_words : Option (List Text) → List Text
behind_words None = []
behind_words (Some words) = codes "--" ∷ words

abbrev pub AreParts : List Part → Type 0
AreParts [] = ⊤
AreParts (p ∷ ps) = IsPart p × AreParts ps

abbrev pub all_written : List Part → List Text → List Text
all_written [] last = last
all_written (p ∷ ps) last = written p (all_written ps last)

-- the line is these words
abbrev pub IsLine : Line → List Text → Type 0
IsLine line words = AreParts line.parts × (words ≡ all_written line.parts (behind_words line.behind))

-- ---- what a line gives: its plain words, and for each option the values of its uses, all in order;
-- a use of `--trace` gives `true`

pub data Kind : Type 0 where
  words : Kind
  steps : Kind
  outs : Kind
  traces : Kind

-- one `=` (61) goes that stands first
abbrev pub without_equals : Text → Text
without_equals [] = []
without_equals (b ∷ rest) = if b == 61 then rest else b ∷ rest

abbrev pub given_by : Kind → Part → List Text
given_by words (plain word) = word ∷ []
given_by steps (steps_next value) = value ∷ []
given_by steps (steps_joined value) = value ∷ []
given_by outs (out_next value) = value ∷ []
given_by outs (out_joined value) = without_equals value ∷ []
given_by traces trace = codes "true" ∷ []
given_by _ _ = []

abbrev pub given_behind : Kind → Option (List Text) → List Text
given_behind words (Some plain_words) = plain_words
given_behind _ _ = []

abbrev pub given_in : Kind → List Part → Option (List Text) → List Text
given_in k [] behind = given_behind k behind
given_in k (p ∷ ps) behind = given_by k p ++ given_in k ps behind

abbrev pub Given : Type 0
Given = Kind → List Text

abbrev pub given : Line → Given
given line k = given_in k line.parts line.behind

-- ---- what the commands take

-- an optional `+` and digits
abbrev pub IsNatural : Text → ℕ → Type 0
IsNatural text n = IsNumeral 10 (without_leading_plus text) × (digits_value 10 (without_leading_plus text) ≡ n)

-- an optional `+` or `-` and digits, within 64 bits
abbrev pub IsInteger : Text → ℤ → Type 0
IsInteger text z = IsNumeral 10 (without_leading_sign text) × (signed_digits_value 10 text ≡ z) × FitsSigned w64 z

abbrev pub AreIntegers : List Text → List ℤ → Type 0
AreIntegers [] [] = ⊤
AreIntegers (text ∷ texts) (z ∷ zs) = IsInteger text z × AreIntegers texts zs
AreIntegers _ _ = ⊥

-- the most steps that may be asked for, and how many are taken where the words ask for none
abbrev pub most_steps : ℕ
most_steps = 9223372036854775807

abbrev pub AreSteps : List Text → ℕ → Type 0
AreSteps [] n = n ≡ most_steps
AreSteps (text ∷ []) n = IsNatural text n × (n ≤ most_steps)
AreSteps _ n = ⊥

-- the one value, which names a file
abbrev pub IsName : List Text → Text → Type 0
IsName texts name = (texts ≡ name ∷ []) × (name ≢ [])

abbrev pub IsNameIfAny : List Text → Option Text → Type 0
IsNameIfAny texts None = texts ≡ []
IsNameIfAny texts (Some name) = IsName texts name

-- used once, or not at all
abbrev pub IsUsed : List Text → Bool → Type 0
IsUsed texts true = length texts ≡ 1
IsUsed texts false = length texts ≡ 0

-- a file and numbers
abbrev pub AreInputs : List Text → Text → List ℤ → Type 0
AreInputs [] file input = ⊥
AreInputs (text ∷ texts) file input = (text ≡ file) × (file ≢ []) × AreIntegers texts input

-- the most functions that a generated program may have
abbrev pub most_size : ℕ
most_size = 2000

-- a number and a size
abbrev pub AreCounts : List Text → ℕ → ℕ → Type 0
AreCounts (a ∷ b ∷ []) number size = IsNatural a number × (number < 2 ^ 32)
    × IsNatural b size × (1 ≤ size) × (size ≤ most_size)
AreCounts _ number size = ⊥

-- the first word is the command's, and what the line gives is what it takes
abbrev pub Takes : Command → Text → Given → Type 0
Takes (command.Check file) first g = (first ≡ codes "check") × IsName (g words) file
    × (g steps ≡ []) × (g outs ≡ []) × (g traces ≡ [])
Takes (command.Build file out traced) first g = (first ≡ codes "build") × IsName (g words) file
    × (g steps ≡ []) × IsName (g outs) out × IsUsed (g traces) traced
Takes (command.Run file out n traced input) first g = (first ≡ codes "run") × AreInputs (g words) file input
    × AreSteps (g steps) n × IsNameIfAny (g outs) out × IsUsed (g traces) traced
Takes (command.Exec file n input) first g = (first ≡ codes "exec") × AreInputs (g words) file input
    × AreSteps (g steps) n × (g outs ≡ []) × (g traces ≡ [])
Takes (command.Selftest number size) first g = (first ≡ codes "selftest") × AreCounts (g words) number size
    × (g steps ≡ []) × (g outs ≡ []) × (g traces ≡ [])

-- the words are the command
abbrev pub Words : List Text → Command → Type 0
Words [] c = ⊥
Words (first ∷ rest) c = (line : Line) × IsLine line rest × Takes c first (given line)
