use Rattle.std.proofs.Common.{◌≡◌, map, drop}
use Rattle.own_tree.specs.View.{args_of, stms_of, clauses_of, argument_view, stmt_view, clause_view}
use Rattle.own_scope.specs.Counting.{args_closures, stms_closures, clauses_closures}
use Rattle.own_scope.proofs.counting.+count.Given as goal

abbrev pub invariant-count_arguments-loop-argument : goal.invariant-count_arguments-loop-argument
invariant-count_arguments-loop-argument l =
    args_closures (args_of (map argument_view (drop l.argument-index l.arguments))) l.count ≡ args_closures (args_of (map argument_view l.arguments)) l.fn.count

abbrev pub invariant-count_statements-loop-statement : goal.invariant-count_statements-loop-statement
invariant-count_statements-loop-statement l =
    stms_closures (stms_of (map stmt_view (drop l.statement-index l.statements))) l.count ≡ stms_closures (stms_of (map stmt_view l.statements)) l.fn.count

abbrev pub invariant-count_clauses-loop-clause : goal.invariant-count_clauses-loop-clause
invariant-count_clauses-loop-clause l =
    clauses_closures (clauses_of (map clause_view (drop l.clause-index l.clauses))) l.count ≡ clauses_closures (clauses_of (map clause_view l.clauses)) l.fn.count
