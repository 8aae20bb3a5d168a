use Rattle.std.proofs.Common.{◌≡◌, ℕ, length}
use Rattle.std.specs.Prelude.{◌↔◌}
use Rattle.own_flow.specs.Words.{Has}
use Rattle.own_flow.proofs.TableLaws.{IsOfFirst}
use Rattle.own_flow.proofs.round.fill.Given as goal

abbrev pub invariant-pairs : goal.invariant-pairs
invariant-pairs l = record {
  len : length l.mask ≡ length l.fn.mask;
  has : (m : ℕ) → Has l.mask m ↔ IsOfFirst l.pairs l.maker m l.leaf;
}
