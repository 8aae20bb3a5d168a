use Rattle.std.proofs.Common.{length}
use Rattle.own_grammar.specs.ReadingFile.{item_with}
use Rattle.own_decl.proofs.ListSteps.{ListedOn}
use Rattle.own_decl.proofs.members.item_list.Given as goal

abbrev pub invariant-loop-found : goal.invariant-loop-found
invariant-loop-found l = ListedOn item_with l.fn.rest l.found l.left

abbrev pub decreases-loop-found : goal.decreases-loop-found
decreases-loop-found l = length l.left
