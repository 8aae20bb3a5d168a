use Rattle.std.proofs.Common.{length}
use Rattle.own_grammar.specs.ReadingFile.{inner_with}
use Rattle.own_decl.proofs.ListSteps.{ListedOn}
use Rattle.own_decl.proofs.types.inner_list.Given as goal

abbrev pub invariant-loop-found : goal.invariant-loop-found
invariant-loop-found l = ListedOn inner_with l.fn.rest l.found l.left

abbrev pub decreases-loop-found : goal.decreases-loop-found
decreases-loop-found l = length l.left
