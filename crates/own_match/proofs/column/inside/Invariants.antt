use Rattle.std.proofs.Common.{◌≡◌, ◌++◌, drop}
use Rattle.own_match.specs.View.{said_all}
use Rattle.own_match.specs.Forms.{inside}
use Rattle.own_match.proofs.column.inside.Given as goal

abbrev pub invariant-loop-cell : goal.invariant-loop-cell
invariant-loop-cell l =
    said_all l.parts.items ++ inside l.case l.payload (said_all (drop l.cell-index l.cells)) ≡ inside l.case l.payload (said_all l.cells)
