use Rattle.std.proofs.Common.{◌≡◌, ◌++◌, map, take}
use Rattle.own_tree.specs.TypedView.{pattern_view}
use Rattle.own_patterns.proofs.copies.push_copies.Given as goal

abbrev pub invariant-loop-pattern : goal.invariant-loop-pattern
invariant-loop-pattern l =
    map pattern_view l.copies.items ≡ map pattern_view l.fn.copies.items ++ map pattern_view (take l.pattern-index l.patterns)
