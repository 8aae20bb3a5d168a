use Rattle.std.proofs.Common.{◌≡◌, ◌++◌, map, drop}
use Rattle.own_tree.specs.TypedView.{clause_view, clauses_of, pattern_view}
use Rattle.own_judged.specs.Patterns.{all_matched}
use Rattle.own_patterns.proofs.copies.all_matched.Given as goal

abbrev pub invariant-loop-clause : goal.invariant-loop-clause
invariant-loop-clause l =
    map pattern_view l.copies.items ++ all_matched (clauses_of (map clause_view (drop l.clause-index l.clauses)))
    ≡ all_matched (clauses_of (map clause_view l.clauses))
