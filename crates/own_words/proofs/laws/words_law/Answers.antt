use Rattle.own_words.proofs.Unique.{words_one}
use Rattle.own_words.proofs.laws.words_law.Goals as goal

pub returns : goal.returns
returns c = words_one
