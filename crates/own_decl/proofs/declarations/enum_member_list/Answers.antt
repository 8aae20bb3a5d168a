use Rattle.std.proofs.Common.{sym, ◌∙◌, arith}
use Rattle.std.proofs.lemmas.Result.{err_from_is_err_and}
use Rattle.own_tree.specs.declared.limits.TheConstants.{MOST_NESTING}
use Rattle.own_grammar.specs.declared.limits.TheConstants.{MOST_PATTERN_LEVELS}
use Rattle.own_tree.specs.declared.token.Mark.TheVariants as mark
use Rattle.own_grammar.specs.Tests.{is_mark}
use Rattle.own_tree.specs.View.{enum_member_view}
use Rattle.own_grammar.specs.ReadingFile.{enum_member_with}
use Rattle.own_grammar.proofs.FileLaws.{enum_list_is}
use Rattle.own_decl.proofs.ListSteps.{separated_go, separated_end, separated_fail, sep_fail}
use Rattle.own_decl.proofs.declarations.enum_member_list.Goals as goal

pub returns-in_err-member-clause-gives : goal.returns-in_err-member-clause-gives
returns-in_err-member-clause-gives c =
    let p = err_from_is_err_and c.from_residual.result c.from_residual.ensures.1 in
    rw (p.1, p.2) (separated_fail enum_member_view (is_mark mark.CloseBrace) (enum_member_with MOST_NESTING MOST_PATTERN_LEVELS) (enum_list_is MOST_NESTING MOST_PATTERN_LEVELS (omega arith)) c.args.rest.now c.loop-alloc.found c.loop-alloc.left.now c.loop-alloc.invariant c.in_err-member.field-0.0 (sym c.is_mark.ensures.value ∙ c.loop-alloc-test.true) c.in_err-member.ensures.gives)

pub returns-in_err-next-clause-gives : goal.returns-in_err-next-clause-gives
returns-in_err-next-clause-gives c =
    let p = err_from_is_err_and c.from_residual-in_err-next.result c.from_residual-in_err-next.ensures.1 in
    rw (p.1, p.2) (sep_fail enum_member_view (is_mark mark.CloseBrace) (enum_member_with MOST_NESTING MOST_PATTERN_LEVELS) (enum_list_is MOST_NESTING MOST_PATTERN_LEVELS (omega arith)) c.args.rest.now c.loop-alloc.found c.loop-alloc.left.now c.loop-alloc.invariant c.in_err-next.field-0.0 c.in_ok-member.member c.in_ok-member.more.now (sym c.is_mark.ensures.value ∙ c.loop-alloc-test.true) c.in_ok-member.ensures.gives c.in_err-next.ensures.gives)

pub loop-alloc-preserved : goal.loop-alloc-preserved
loop-alloc-preserved c =
    separated_go enum_member_view (is_mark mark.CloseBrace) (enum_member_with MOST_NESTING MOST_PATTERN_LEVELS) (enum_list_is MOST_NESTING MOST_PATTERN_LEVELS (omega arith)) c.args.rest.now c.loop-alloc.found c.loop-alloc.left.now c.loop-alloc.invariant c.in_ok-member.member c.in_ok-member.more.now c.in_ok-next.next.now c.push.new.self
    (sym c.is_mark.ensures.value ∙ c.loop-alloc-test.true) c.in_ok-member.ensures.gives c.in_ok-next.ensures.gives c.in_ok-push.ensures.ok (omega (arith, c.in_ok-next.ensures.within, c.in_ok-member.ensures.shorter))

pub returns-clause-gives : goal.returns-clause-gives
returns-clause-gives c = separated_end enum_member_view (is_mark mark.CloseBrace) (enum_member_with MOST_NESTING MOST_PATTERN_LEVELS) (enum_list_is MOST_NESTING MOST_PATTERN_LEVELS (omega arith)) c.args.rest.now c.loop-alloc.found c.loop-alloc.left.now c.loop-alloc.invariant (sym c.is_mark.ensures.value ∙ c.loop-alloc-test.false)
