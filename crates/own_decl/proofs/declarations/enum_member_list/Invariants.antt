use Rattle.std.proofs.Common.{length}
use Rattle.own_tree.specs.declared.limits.TheConstants.{MOST_NESTING}
use Rattle.own_grammar.specs.declared.limits.TheConstants.{MOST_PATTERN_LEVELS}
use Rattle.own_tree.specs.declared.token.Mark.TheVariants as mark
use Rattle.own_grammar.specs.Tests.{is_mark}
use Rattle.own_tree.specs.View.{enum_member_view}
use Rattle.own_grammar.specs.ReadingFile.{enum_member_with}
use Rattle.own_decl.proofs.ListSteps.{SeparatedOn}
use Rattle.own_decl.proofs.declarations.enum_member_list.Given as goal

abbrev pub invariant-loop-alloc : goal.invariant-loop-alloc
invariant-loop-alloc l = SeparatedOn enum_member_view (is_mark mark.CloseBrace) (enum_member_with MOST_NESTING MOST_PATTERN_LEVELS) l.fn.rest l.found l.left

abbrev pub decreases-loop-alloc : goal.decreases-loop-alloc
decreases-loop-alloc l = length l.left
