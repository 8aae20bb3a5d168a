use Rattle.std.proofs.Common.{◌≡◌, ℕ, ◌<◌, [], ◌++◌, drop, get_or, length}
use Rattle.own_bodies.specs.Numbers.{numbers_declared}
use Rattle.own_bodies.proofs.index.BodyBindings.new.Given as goal

abbrev pub invariant-loop-number : goal.invariant-loop-number
invariant-loop-number l = record {
  len : length l.rows.items ≡ l.bodies;
  each : (k : ℕ) → k < l.bodies → get_or l.rows.items k [] ++ numbers_declared k l.number (drop l.number l.bindings) ≡ numbers_declared k 0 l.bindings;
}
