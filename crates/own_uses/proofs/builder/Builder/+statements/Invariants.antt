use Rattle.std.proofs.Common.{◌≡◌, ◌++◌, map, drop}
use Rattle.own_tree.specs.OpView.{op_view}
use Rattle.own_tree.specs.TypedView.{stms_of, clauses_of, expr_view, stmt_view, clause_view}
use Rattle.own_paths.specs.Ops.{stms_ops, clauses_ops}
use Rattle.own_uses.specs.Building.{types_for, program_for}
use Rattle.own_uses.proofs.builder.Builder.+statements.Given as goal

abbrev pub invariant-statements_ops-loop-statement : goal.invariant-statements_ops-loop-statement
invariant-statements_ops-loop-statement l =
    map op_view l.trees ++ stms_ops (types_for l.self) (program_for l.self) (stms_of (map stmt_view (drop l.statement-index l.statements)))
    ≡ stms_ops (types_for l.self) (program_for l.self) (stms_of (map stmt_view l.statements))

abbrev pub invariant-clauses_ops-loop-clause : goal.invariant-clauses_ops-loop-clause
invariant-clauses_ops-loop-clause l =
    map op_view l.trees ++ clauses_ops (types_for l.self) (program_for l.self) (expr_view l.subject) l.at (clauses_of (map clause_view (drop l.clause-index l.clauses)))
    ≡ clauses_ops (types_for l.self) (program_for l.self) (expr_view l.subject) l.at (clauses_of (map clause_view l.clauses))
