-- What the answers of `lex` say of a text.
use Rattle.std.specs.Prelude.{◌≡◌, ℕ, ◌<◌, ◌≤◌, List, length, IsUtf8}
use Rattle.std.specs.Str.Lossy.{utf8_valid_len}
use Rattle.own_tree.specs.declared.limits.TheConstants.{MOST_TEXT_BYTES, MOST_TOKENS}
use Rattle.own_tree.specs.declared.token.Token.{Token}
use Rattle.own_tree.specs.Characters.{Text, place}
use Rattle.own_tree.specs.Tokens.{Fault, Ending, Broken, Stopped, Reads, Tokens}
use Rattle.own_tree.specs.Tokens as rules
use Rattle.own_tree.specs.declared.error.LexError.{LexError}
use Rattle.own_tree.specs.declared.error.LexError.TheVariants as error
use Rattle.own_lex.specs.Reading.{Bytes}

-- The text is short enough, and has these tokens, few enough.
pub record HasTokens (text : Bytes) (tokens : List Token) : Type 0 where
  pub short : length text ≤ MOST_TEXT_BYTES
  pub tokens_are : Tokens text tokens
  pub few : length tokens ≤ MOST_TOKENS

-- The first fault of the text, after few enough tokens, is this one, at this place.
pub record Faults (text : Bytes) (fault : Text → Fault) (at : ℕ) : Type 0 where
  pub short : length text ≤ MOST_TEXT_BYTES
  pub tokens : List Token
  pub rest : Text
  pub reads : Reads text tokens (Broken (fault rest))
  pub few : length tokens ≤ MOST_TOKENS
  pub at_rest : at ≡ place (length text) rest

-- One token more than there may be begins at this place.
pub record Overfull (text : Bytes) (at : ℕ) : Type 0 where
  pub short : length text ≤ MOST_TEXT_BYTES
  pub tokens : List Token
  pub rest : Text
  pub reads : Reads text tokens (Stopped rest)
  pub full : length tokens ≡ MOST_TOKENS
  pub at_rest : at ≡ place (length text) rest

-- The text is refused for this reason, which is never want of memory.
abbrev pub Refuses : Bytes → LexError → Type 0
Refuses text (error.TooLong bytes) = (MOST_TEXT_BYTES < length text) × (bytes ≡ length text)
Refuses text (error.NotUtf8 at) = (length text ≤ MOST_TEXT_BYTES) × ¬ (IsUtf8 text) × (at ≡ utf8_valid_len text)
Refuses text (error.BadChar at) = Faults text rules.BadChar at
Refuses text (error.OpenComment at) = Faults text rules.OpenComment at
Refuses text (error.OpenText at) = Faults text rules.OpenText at
Refuses text (error.WideNumber at) = Faults text rules.WideNumber at
Refuses text (error.TooManyTokens at) = Overfull text at
Refuses text error.Memory = ⊥

-- The same, or want of memory.
abbrev pub MayRefuse : Bytes → LexError → Type 0
MayRefuse text error.Memory = Unit {0}
MayRefuse text e = Refuses text e
