use Rattle.std.proofs.Common.{◌≡◌, ℕ, ◌<◌, length, slice_get, Some}
use Rattle.own_flow.proofs.TestLaws.{OfFirst}
use Rattle.own_flow.proofs.tests.lead_to_nodes.Given as goal

abbrev pub invariant-nodes : goal.invariant-nodes
invariant-nodes l = OfFirst (λ u n. (k v : ℕ) → slice_get n.next k ≡ Some v → v < length l.nodes) l.nodes l.u
