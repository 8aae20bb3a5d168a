use Rattle.std.proofs.Common.{◌≡◌, map, drop}
use Rattle.own_tree.specs.View.{args_of, stms_of, clauses_of, argument_view, stmt_view, clause_view}
use Rattle.own_survey.specs.Names.{written_in}
use Rattle.own_survey.specs.Walks.{args_walk, stms_walk, clauses_walk}
use Rattle.own_survey.proofs.expressions.+walk.Given as goal

abbrev pub invariant-walk_arguments-loop-argument : goal.invariant-walk_arguments-loop-argument
invariant-walk_arguments-loop-argument l =
    args_walk (written_in l.fn.names) (args_of (map argument_view (drop l.argument-index l.arguments))) l.survey ≡ args_walk (written_in l.fn.names) (args_of (map argument_view l.arguments)) l.fn.survey

abbrev pub invariant-walk_statements-loop-statement : goal.invariant-walk_statements-loop-statement
invariant-walk_statements-loop-statement l =
    stms_walk (written_in l.fn.names) (stms_of (map stmt_view (drop l.statement-index l.statements))) l.survey ≡ stms_walk (written_in l.fn.names) (stms_of (map stmt_view l.statements)) l.fn.survey

abbrev pub invariant-walk_clauses-loop-clause : goal.invariant-walk_clauses-loop-clause
invariant-walk_clauses-loop-clause l =
    clauses_walk (written_in l.fn.names) (clauses_of (map clause_view (drop l.clause-index l.clauses))) l.survey ≡ clauses_walk (written_in l.fn.names) (clauses_of (map clause_view l.clauses)) l.fn.survey
