use Rattle.std.proofs.Common.{◌≡◌, ◌≤◌}
use Rattle.std.specs.String.{string_bytes}
use Rattle.std.specs.Char.{encode_utf8}
use Rattle.own_lex.specs.Reading.{name_on}
use Rattle.own_lex.proofs.word.spelling.Given as goal

abbrev pub invariant-loop-c : goal.invariant-loop-c
invariant-loop-c l = record {
  whole : name_on (string_bytes l.name) l.rest.chars.now ≡ name_on (encode_utf8 l.fn.first) l.text.chars.now;
  within : l.rest.left ≤ l.text.left;
}

abbrev pub decreases-loop-c : goal.decreases-loop-c
decreases-loop-c l = l.rest.left
