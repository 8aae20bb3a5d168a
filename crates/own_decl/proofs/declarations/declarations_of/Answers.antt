use Rattle.std.proofs.Common.{sym, ◌∙◌, arith}
use Rattle.std.proofs.lemmas.Result.{err_from_is_err_and}
use Rattle.own_tree.specs.declared.limits.TheConstants.{MOST_NESTING}
use Rattle.own_grammar.specs.declared.limits.TheConstants.{MOST_PATTERN_LEVELS}
use Rattle.own_tree.specs.View.{declaration_view}
use Rattle.own_grammar.specs.ReadingFile.{is_main, declaration_with}
use Rattle.own_grammar.proofs.FileLaws.{declaration_list_is}
use Rattle.own_decl.proofs.ListSteps.{separated_go, separated_end, separated_fail, sep_fail}
use Rattle.own_decl.proofs.declarations.declarations_of.Goals as goal

pub returns-in_err-declaration : goal.returns-in_err-declaration
returns-in_err-declaration c =
    let p = err_from_is_err_and c.from_residual.result c.from_residual.ensures.1 in
    rw (p.1, p.2) (separated_fail declaration_view is_main (declaration_with MOST_NESTING MOST_PATTERN_LEVELS) (declaration_list_is MOST_NESTING MOST_PATTERN_LEVELS (omega arith)) c.args.rest.now c.loop-alloc.found c.loop-alloc.left.now c.loop-alloc.invariant c.in_err-declaration.field-0.0 (sym c.is_main.ensures ∙ c.loop-alloc-test.true) c.in_err-declaration.ensures.gives)

pub returns-in_err-next : goal.returns-in_err-next
returns-in_err-next c =
    let p = err_from_is_err_and c.from_residual-in_err-next.result c.from_residual-in_err-next.ensures.1 in
    rw (p.1, p.2) (sep_fail declaration_view is_main (declaration_with MOST_NESTING MOST_PATTERN_LEVELS) (declaration_list_is MOST_NESTING MOST_PATTERN_LEVELS (omega arith)) c.args.rest.now c.loop-alloc.found c.loop-alloc.left.now c.loop-alloc.invariant c.in_err-next.field-0.0 c.in_ok-declaration.declaration c.in_ok-declaration.more.now (sym c.is_main.ensures ∙ c.loop-alloc-test.true) c.in_ok-declaration.ensures.gives c.in_err-next.ensures.gives)

pub loop-alloc-preserved : goal.loop-alloc-preserved
loop-alloc-preserved c =
    separated_go declaration_view is_main (declaration_with MOST_NESTING MOST_PATTERN_LEVELS) (declaration_list_is MOST_NESTING MOST_PATTERN_LEVELS (omega arith)) c.args.rest.now c.loop-alloc.found c.loop-alloc.left.now c.loop-alloc.invariant c.in_ok-declaration.declaration c.in_ok-declaration.more.now c.in_ok-next.next.now c.push.new.self
    (sym c.is_main.ensures ∙ c.loop-alloc-test.true) c.in_ok-declaration.ensures.gives c.in_ok-next.ensures.gives c.in_ok-push.ensures.ok (omega (arith, c.in_ok-next.ensures.within, c.in_ok-declaration.ensures.shorter))

pub returns : goal.returns
returns c = separated_end declaration_view is_main (declaration_with MOST_NESTING MOST_PATTERN_LEVELS) (declaration_list_is MOST_NESTING MOST_PATTERN_LEVELS (omega arith)) c.args.rest.now c.loop-alloc.found c.loop-alloc.left.now c.loop-alloc.invariant (sym c.is_main.ensures ∙ c.loop-alloc-test.false)
