use Rattle.std.proofs.Common.{◌≡◌, ℕ, ◌<◌, slice_get, Some}
use Rattle.own_tree.specs.declared.graph.Maker.{Maker}
use Rattle.own_flow.proofs.tests.are_starts.Given as goal

abbrev pub invariant-leaves : goal.invariant-leaves
invariant-leaves l = (k : ℕ) → k < l.l → (q : Maker) × (slice_get l.pairs k ≡ Some q) × (q.leaf ≡ k)
