use Rattle.std.proofs.Common.{◌≡◌, ◌≤◌, drop}
use Rattle.own_lex.proofs.rest.Rest.skip.Given as goal

abbrev pub invariant-loop-more : goal.invariant-loop-more
invariant-loop-more l = record {
  whole : drop l.more l.rest.chars.now ≡ drop l.fn.count l.self.chars.now;
  within : l.rest.left ≤ l.self.left;
}

abbrev pub decreases-loop-more : goal.decreases-loop-more
decreases-loop-more l = l.more
