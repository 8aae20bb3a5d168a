use Rattle.std.proofs.Common.{◌≡◌, ◌≤◌, []}
use Rattle.std.specs.String.{string_bytes}
use Rattle.own_lex.specs.Reading.{text_on}
use Rattle.own_lex.proofs.text.text_on.Given as goal

abbrev pub invariant-loop-rest : goal.invariant-loop-rest
invariant-loop-rest l = record {
  whole : text_on l.start (string_bytes l.value) l.rest.chars.now ≡ text_on l.start [] l.text.chars.now;
  within : l.rest.left ≤ l.text.left;
}

abbrev pub decreases-loop-rest : goal.decreases-loop-rest
decreases-loop-rest l = l.rest.left
