use Rattle.std.proofs.Common.{◌≡◌, ℕ, ◌<◌, ◌≤◌, ◌⊎◌, get_or}
use Rattle.std.specs.Prelude.{bit_or}
use Rattle.own_flow.specs.Words.{room}
use Rattle.own_flow.proofs.bits.join_words.Given as goal

abbrev pub invariant-words : goal.invariant-words
invariant-words l = record {
  done : (j : ℕ) → j < l.k → get_or l.into j 0 ≡ bit_or (get_or l.fn.into j 0) (get_or l.from j 0);
  left : (j : ℕ) → l.k ≤ j → get_or l.into j 0 ≡ get_or l.fn.into j 0;
  less : (l.into ≡ l.fn.into) ⊎ (room l.into < room l.fn.into);
}
