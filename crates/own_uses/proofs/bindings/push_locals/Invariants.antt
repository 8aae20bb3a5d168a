use Rattle.std.proofs.Common.{◌≡◌, ◌++◌, map, drop}
use Rattle.own_tree.specs.TypedView.{stms_of, stmt_view}
use Rattle.own_paths.specs.Within.{locals}
use Rattle.own_uses.proofs.bindings.push_locals.Given as goal

abbrev pub invariant-loop-statement : goal.invariant-loop-statement
invariant-loop-statement l =
    l.numbers.items ++ locals (stms_of (map stmt_view (drop l.statement-index l.statements)))
    ≡ l.fn.numbers.items ++ locals (stms_of (map stmt_view l.statements))
