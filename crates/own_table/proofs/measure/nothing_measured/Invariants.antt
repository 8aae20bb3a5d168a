use Rattle.std.proofs.Common.{◌≡◌, length}
use Rattle.own_table.proofs.measure.nothing_measured.Given as goal

abbrev pub invariant-loop : goal.invariant-loop
invariant-loop l = length l.measures.items ≡ l.counter
