use Rattle.std.proofs.Common.{◌≡◌, ℕ, length, vec_len}
use Rattle.std.specs.Prelude.{◌↔◌, All}
use Rattle.own_flow.specs.Flow.{mask_of}
use Rattle.own_flow.specs.Words.{Has}
use Rattle.own_flow.proofs.TableLaws.{IsOfFirst}
use Rattle.own_flow.proofs.tables.masks.Given as goal

abbrev pub invariant-pairs : goal.invariant-pairs
invariant-pairs l = record {
  len : vec_len l.masks ≡ l.leaves;
  long : All (λ mask. length mask ≡ l.words) l.masks.items;
  has : (leaf m : ℕ) → Has (mask_of l.masks.items leaf) m ↔ IsOfFirst l.pairs l.maker m leaf;
}
