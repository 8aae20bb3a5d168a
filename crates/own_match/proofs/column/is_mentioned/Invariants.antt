use Rattle.std.proofs.Common.{◌≡◌}
use Rattle.own_match.specs.View.{said_all}
use Rattle.own_match.specs.Search.{is_mentioned}
use Rattle.own_match.proofs.column.is_mentioned.Given as goal

abbrev pub invariant-loop-live : goal.invariant-loop-live
invariant-loop-live l =
    is_mentioned l.head l.live-iterator.a.rest.now (said_all l.live-iterator.b.rest.now) ≡ is_mentioned l.head l.live (said_all l.cells)
