use Rattle.std.proofs.Common.{◌≡◌, drop}
use Rattle.own_match.specs.View.{said_all}
use Rattle.own_match.specs.Search.{rising_onto, rising}
use Rattle.own_match.proofs.column.literals.Given as goal

abbrev pub invariant-loop-cell : goal.invariant-loop-cell
invariant-loop-cell l = rising_onto l.numbers.keys (said_all (drop l.cell-index l.cells)) ≡ rising (said_all l.cells)
