use Rattle.std.proofs.Common.{length}
use Rattle.own_lex.proofs.rest.+begins.Given as goal

abbrev pub decreases-begins : goal.decreases-begins
decreases-begins l = length l.start.now
