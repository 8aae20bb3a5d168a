use Rattle.std.proofs.Common.{◌≡◌, ◌≤◌, ◌<◌, ◌-◌, ◌^◌}
use Rattle.own_tree.specs.Tokens.{hexadecimal}
use Rattle.own_lex.proofs.text.hexadecimal.Given as goal

abbrev pub invariant-loop-count : goal.invariant-loop-count
invariant-loop-count l = record {
  whole : hexadecimal (8 - l.count) l.value l.rest.chars.now ≡ hexadecimal 8 0 l.text.chars.now;
  small : l.value < 16 ^ l.count;
  within : l.rest.left ≤ l.text.left;
}
