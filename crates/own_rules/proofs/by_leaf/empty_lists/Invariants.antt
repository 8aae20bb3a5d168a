use Rattle.std.proofs.Common.{◌≡◌, ℕ, vec_len}
use Rattle.std.specs.Prelude.{Contains}
use Rattle.own_rules.specs.Bodies.{makers_of}
use Rattle.own_rules.proofs.by_leaf.empty_lists.Given as goal

abbrev pub invariant-loop : goal.invariant-loop
invariant-loop l = record {
  len : vec_len l.lists ≡ l.counter;
  none : (u p : ℕ) → ¬ (Contains (makers_of l.lists.items u) p);
}
