use Rattle.std.proofs.Common.{◌≡◌, ℕ, vec_len}
use Rattle.std.specs.Prelude.{Contains}
use Rattle.own_flow.specs.declared.made.Made.{Made}
use Rattle.own_flow.specs.Flow.{made_at}
use Rattle.own_flow.proofs.tables.empty_lists.Given as goal

abbrev pub invariant-loop : goal.invariant-loop
invariant-loop l = record {
  len : vec_len l.lists ≡ l.counter;
  none : (u : ℕ) (x : Made) → ¬ (Contains (made_at l.lists.items u) x);
}
