use Rattle.std.proofs.Common.{◌≡◌, ◌++◌, map, drop}
use Rattle.own_tree.specs.TypedView.{pats_of, pattern_view}
use Rattle.own_paths.specs.Within.{patterns_bindings}
use Rattle.own_uses.proofs.bindings.+patterns.Given as goal

abbrev pub invariant-push_patterns-loop-pattern : goal.invariant-push_patterns-loop-pattern
invariant-push_patterns-loop-pattern l =
    l.numbers.items ++ patterns_bindings (pats_of (map pattern_view (drop l.pattern-index l.patterns)))
    ≡ l.fn.numbers.items ++ patterns_bindings (pats_of (map pattern_view l.patterns))
