use Rattle.std.proofs.Common.{◌≡◌, ℕ, ◌<◌, ◌≤◌, get_or, w64}
use Rattle.std.specs.Prelude.{bit_and}
use Rattle.std.specs.Int.{bit_not}
use Rattle.own_flow.proofs.bits.remove_words.Given as goal

abbrev pub invariant-words : goal.invariant-words
invariant-words l = record {
  done : (j : ℕ) → j < l.k → get_or l.set j 0 ≡ bit_and (get_or l.fn.set j 0) (bit_not w64 (get_or l.what j 0));
  left : (j : ℕ) → l.k ≤ j → get_or l.set j 0 ≡ get_or l.fn.set j 0;
}
