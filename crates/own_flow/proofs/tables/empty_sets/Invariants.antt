use Rattle.std.proofs.Common.{◌≡◌, ℕ, length, vec_len}
use Rattle.std.specs.Prelude.{All}
use Rattle.own_flow.specs.Flow.{HasAt}
use Rattle.own_flow.proofs.tables.empty_sets.Given as goal

abbrev pub invariant-loop : goal.invariant-loop
invariant-loop l = record {
  len : vec_len l.sets ≡ l.counter;
  long : All (λ set. length set ≡ l.words) l.sets.items;
  none : (u m : ℕ) → ¬ (HasAt l.sets.items u m);
}
