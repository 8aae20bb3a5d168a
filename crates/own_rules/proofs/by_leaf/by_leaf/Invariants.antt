use Rattle.std.proofs.Common.{◌≡◌, ℕ, vec_len}
use Rattle.std.specs.Prelude.{◌↔◌, Contains}
use Rattle.own_flow.proofs.TableLaws.{IsOfFirst}
use Rattle.own_rules.specs.Bodies.{makers_of}
use Rattle.own_rules.proofs.by_leaf.by_leaf.Given as goal

abbrev pub invariant-pairs : goal.invariant-pairs
invariant-pairs l = record {
  len : vec_len l.lists ≡ l.leaves;
  has : (u p : ℕ) → Contains (makers_of l.lists.items u) p ↔ IsOfFirst l.pairs l.maker p u;
}
