use Rattle.std.proofs.Common.{◌≤◌}
use Rattle.own_lex.proofs.Comments.{CommentOn}
use Rattle.own_lex.proofs.comment.comment_end.Given as goal

abbrev pub invariant-loop-rest : goal.invariant-loop-rest
invariant-loop-rest l = record {
  comment : CommentOn l.text.chars.now l.outer l.line l.rest.chars.now;
  within : l.rest.left ≤ l.text.left;
}

abbrev pub decreases-loop-rest : goal.decreases-loop-rest
decreases-loop-rest l = l.rest.left
