use Rattle.std.proofs.Common.{◌≡◌, length, map}
use Rattle.own_lex.specs.Reading.{first_mark}
use Rattle.own_lex.proofs.mark.first_mark.Given as goal

abbrev pub invariant-loop-table : goal.invariant-loop-table
invariant-loop-table l = first_mark (map (λ e. (e.0.now, e.1)) l.table) l.text.chars.now ≡ first_mark (map (λ e. (e.0.now, e.1)) l.initial.table) l.text.chars.now

abbrev pub decreases-loop-table : goal.decreases-loop-table
decreases-loop-table l = length l.table
