use Rattle.std.proofs.Common.{◌≡◌, ◌++◌, map, drop}
use Rattle.own_tree.specs.TypedView.{pattern_view}
use Rattle.own_match.specs.View.{said_all}
use Rattle.own_match.proofs.covering.whole_cells.Given as goal

abbrev pub invariant-loop-pattern : goal.invariant-loop-pattern
invariant-loop-pattern l = said_all l.cells.items ++ map pattern_view (drop l.pattern-index l.patterns) ≡ map pattern_view l.patterns
