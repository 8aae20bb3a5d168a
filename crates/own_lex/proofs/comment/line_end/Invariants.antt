use Rattle.std.proofs.Common.{◌≡◌, ◌≤◌, not}
use Rattle.own_tree.specs.Characters.{past, is_line_end}
use Rattle.own_lex.proofs.comment.line_end.Given as goal

abbrev pub invariant-loop-c : goal.invariant-loop-c
invariant-loop-c l = record {
  whole : past (λ c. not (is_line_end c)) l.rest.chars.now ≡ past (λ c. not (is_line_end c)) l.text.chars.now;
  within : l.rest.left ≤ l.text.left;
}

abbrev pub decreases-loop-c : goal.decreases-loop-c
decreases-loop-c l = l.rest.left
