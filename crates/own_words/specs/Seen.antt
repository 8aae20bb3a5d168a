-- What was read of the words after the first.
use Rattle.std.specs.Prelude.{◌≡◌, map, codes, if◌then◌else◌, List, [], ◌∷◌, Option, Some, None}
use Rattle.std.specs.Borrow.{Bor}
use Rattle.own_words.specs.Words.{Text, Given as Gives, words, steps, outs, traces}
use Rattle.own_words.specs.declared.given.Given.{Given}

abbrev pub one_or_none : Option (Bor Text) → List Text
one_or_none None = []
one_or_none (Some text) = text.now ∷ []

abbrev pub all_or_none : Option (Bor (List (Bor Text))) → List Text
all_or_none None = []
all_or_none (Some texts) = map (λ s. s.now) texts.now

abbrev pub seen : Given → Gives
seen g words = all_or_none g.words
seen g steps = one_or_none g.steps
seen g outs = one_or_none g.out
seen g traces = if g.trace then codes "true" ∷ [] else []

-- it has no option that is not the command's
pub record HasOwn (name : Text) (g : Gives) : Type 0 where
  pub check : name ≡ codes "check" → (g steps ≡ []) × (g outs ≡ []) × (g traces ≡ [])
  pub build : name ≡ codes "build" → g steps ≡ []
  pub exec : name ≡ codes "exec" → (g outs ≡ []) × (g traces ≡ [])
  pub selftest : name ≡ codes "selftest" → (g steps ≡ []) × (g outs ≡ []) × (g traces ≡ [])
