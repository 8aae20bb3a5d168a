use Rattle.std.proofs.Common.{◌≡◌, ◌++◌}
use Rattle.own_match.specs.View.{said_all}
use Rattle.own_match.specs.Search.{narrowed}
use Rattle.own_match.proofs.column.narrowed.Given as goal

abbrev pub invariant-loop-live : goal.invariant-loop-live
invariant-loop-live l =
    l.bits.items ++ narrowed l.head l.live-iterator.a.rest.now (said_all l.live-iterator.b.rest.now) ≡ narrowed l.head l.live (said_all l.cells)
