use Rattle.std.proofs.Common.{◌≡◌, ◌++◌, map, drop}
use Rattle.own_tree.specs.TypedView.{clauses_of, clause_view}
use Rattle.own_paths.specs.Within.{exps_of_heads}
use Rattle.own_within.specs.View.{exps_seen}
use Rattle.own_within.proofs.within.push_heads.Given as goal

abbrev pub invariant-loop-clause : goal.invariant-loop-clause
invariant-loop-clause l =
    exps_seen l.found.items ++ exps_of_heads (clauses_of (map clause_view (drop l.clause-index l.clauses)))
    ≡ exps_seen l.fn.found.items ++ exps_of_heads (clauses_of (map clause_view l.clauses))
