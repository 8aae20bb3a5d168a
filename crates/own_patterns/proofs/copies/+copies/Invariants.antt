use Rattle.std.proofs.Common.{◌≡◌, map, take}
use Rattle.own_tree.specs.TypedView.{pattern_view}
use Rattle.own_patterns.proofs.copies.+copies.Given as goal

abbrev pub invariant-all_copied-loop-pattern : goal.invariant-all_copied-loop-pattern
invariant-all_copied-loop-pattern l =
    map pattern_view l.copies.items ≡ map pattern_view (take l.pattern-index l.patterns)
