use Rattle.std.proofs.Common.{map, take}
use Rattle.own_words.specs.Words.{AreIntegers}
use Rattle.own_words.proofs.read.integers.Given as goal

abbrev pub invariant-loop-text : goal.invariant-loop-text
invariant-loop-text l = AreIntegers (map (λ s. s.now) (take l.text-index l.texts)) l.input
