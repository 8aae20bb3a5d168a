use Rattle.std.proofs.Common.{◌≡◌, ℕ, ◌⊎◌, length}
use Rattle.std.specs.Prelude.{◌↔◌}
use Rattle.own_flow.specs.Words.{Has}
use Rattle.own_flow.proofs.RoundLaws.{IsAddedFirst}
use Rattle.own_flow.proofs.round.add.Given as goal

abbrev pub invariant-pairs : goal.invariant-pairs
invariant-pairs l = record {
  len : length l.out ≡ length l.fn.out;
  mask_len : length l.mask ≡ length l.fn.mask;
  has : (m : ℕ) → Has l.out m ↔ (Has l.fn.out m ⊎ IsAddedFirst l.pairs l.leaves l.node l.row l.maker m);
}
