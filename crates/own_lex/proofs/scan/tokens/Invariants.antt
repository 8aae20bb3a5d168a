use Rattle.std.proofs.Common.{◌≡◌, ◌≤◌, [], true, false, length}
use Rattle.own_lex.specs.Reading.{lex_on}
use Rattle.own_lex.proofs.scan.tokens.Given as goal

abbrev pub invariant-loop-rest : goal.invariant-loop-rest
invariant-loop-rest l = record {
  whole : lex_on l.total l.tokens l.before.space l.before.line l.rest.chars.now ≡ lex_on l.total [] true false l.text.chars.now;
  within : l.rest.left ≤ l.total;
}

abbrev pub decreases-loop-rest : goal.decreases-loop-rest
decreases-loop-rest l = length l.rest.chars.now
