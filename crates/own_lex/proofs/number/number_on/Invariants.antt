use Rattle.std.proofs.Common.{◌≡◌, ◌≤◌, Some}
use Rattle.own_lex.specs.Reading.{number_on}
use Rattle.own_lex.proofs.number.number_on.Given as goal

abbrev pub invariant-loop-c : goal.invariant-loop-c
invariant-loop-c l = record {
  whole : number_on l.base l.number l.rest.chars.now ≡ number_on l.base (Some 0) l.digits.chars.now;
  within : l.rest.left ≤ l.digits.left;
}

abbrev pub decreases-loop-c : goal.decreases-loop-c
decreases-loop-c l = l.rest.left
