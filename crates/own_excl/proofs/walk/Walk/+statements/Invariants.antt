use Rattle.std.proofs.Common.{◌≡◌, ◌++◌, map, drop}
use Rattle.own_tree.specs.TypedView.{stms_of, clauses_of, stmt_view, clause_view}
use Rattle.own_excl.specs.Changes.{stms_changes, clauses_changes}
use Rattle.own_excl.specs.View.{changes_view, types_for, program_for}
use Rattle.own_excl.proofs.walk.Walk.+statements.Given as goal

abbrev pub invariant-push_statements-loop-statement : goal.invariant-push_statements-loop-statement
invariant-push_statements-loop-statement l =
    changes_view l.changes.items ++ stms_changes (types_for l.self) (program_for l.self) (stms_of (map stmt_view (drop l.statement-index l.statements)))
    ≡ changes_view l.fn.changes.items ++ stms_changes (types_for l.self) (program_for l.self) (stms_of (map stmt_view l.statements))

abbrev pub invariant-push_clauses-loop-clause : goal.invariant-push_clauses-loop-clause
invariant-push_clauses-loop-clause l =
    changes_view l.changes.items ++ clauses_changes (types_for l.self) (program_for l.self) (clauses_of (map clause_view (drop l.clause-index l.clauses)))
    ≡ changes_view l.fn.changes.items ++ clauses_changes (types_for l.self) (program_for l.self) (clauses_of (map clause_view l.clauses))
