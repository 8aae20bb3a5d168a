use Rattle.std.proofs.Common.{◌<◌}
use Rattle.own_flow.proofs.TestLaws.{OfFirst}
use Rattle.own_flow.proofs.tests.are_below.Given as goal

abbrev pub invariant-next : goal.invariant-next
invariant-next l = OfFirst (λ k v. v < l.count) l.next l.k
