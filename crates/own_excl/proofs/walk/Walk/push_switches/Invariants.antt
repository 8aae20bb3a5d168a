use Rattle.std.proofs.Common.{◌≡◌, ◌++◌, drop}
use Rattle.own_within.specs.View.{stms_seen}
use Rattle.own_excl.specs.Found.{switches_found}
use Rattle.own_excl.specs.View.{breaks_view, types_for, program_for}
use Rattle.own_excl.proofs.walk.Walk.push_switches.Given as goal

abbrev pub invariant-loop-statement : goal.invariant-loop-statement
invariant-loop-statement l =
    breaks_view l.breaks.items ++ switches_found (types_for l.self) (program_for l.self) (stms_seen (drop l.statement-index l.statements)) ≡ breaks_view l.fn.breaks.items ++ switches_found (types_for l.self) (program_for l.self) (stms_seen l.statements)
