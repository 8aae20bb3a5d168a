use Rattle.std.proofs.Common.{◌≡◌, ◌++◌, map, drop}
use Rattle.own_tree.specs.TypedView.{stms_of, clauses_of, stmt_view, clause_view}
use Rattle.own_paths.specs.Within.{stms_in_list, stms_in_clauses}
use Rattle.own_within.specs.View.{stms_seen}
use Rattle.own_within.proofs.statements.+within.Given as goal

abbrev pub invariant-push_statements-loop-statement : goal.invariant-push_statements-loop-statement
invariant-push_statements-loop-statement l =
    stms_seen l.found.items ++ stms_in_list (stms_of (map stmt_view (drop l.statement-index l.statements)))
    ≡ stms_seen l.fn.found.items ++ stms_in_list (stms_of (map stmt_view l.statements))

abbrev pub invariant-push_clauses-loop-clause : goal.invariant-push_clauses-loop-clause
invariant-push_clauses-loop-clause l =
    stms_seen l.found.items ++ stms_in_clauses (clauses_of (map clause_view (drop l.clause-index l.clauses)))
    ≡ stms_seen l.fn.found.items ++ stms_in_clauses (clauses_of (map clause_view l.clauses))
