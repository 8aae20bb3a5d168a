use Rattle.std.proofs.Common.{◌≡◌, ℕ, [], get_or, length}
use Rattle.own_bodies.proofs.index.empty_rows.Given as goal

abbrev pub invariant-loop : goal.invariant-loop
invariant-loop l = record {
  len : length l.rows.items ≡ l.counter;
  none : (k : ℕ) → get_or l.rows.items k [] ≡ [];
}
