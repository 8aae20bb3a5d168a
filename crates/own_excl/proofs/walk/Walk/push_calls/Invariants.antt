use Rattle.std.proofs.Common.{◌≡◌, ◌++◌, drop}
use Rattle.own_within.specs.View.{exps_seen}
use Rattle.own_excl.specs.Found.{calls_found}
use Rattle.own_excl.specs.View.{breaks_view, types_for, program_for}
use Rattle.own_excl.proofs.walk.Walk.push_calls.Given as goal

abbrev pub invariant-loop-expr : goal.invariant-loop-expr
invariant-loop-expr l =
    breaks_view l.breaks.items ++ calls_found (types_for l.self) (program_for l.self) (exps_seen (drop l.expr-index l.exprs)) ≡ breaks_view l.fn.breaks.items ++ calls_found (types_for l.self) (program_for l.self) (exps_seen l.exprs)
