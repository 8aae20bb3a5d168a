use Rattle.std.proofs.Common.{sym, ◌∙◌, arith}
use Rattle.std.proofs.lemmas.Result.{err_from_is_err_and}
use Rattle.own_grammar.specs.ReadingFile.{name_with}
use Rattle.own_grammar.proofs.Members.{name_list_is}
use Rattle.own_decl.proofs.ListSteps.{listed_go, listed_stop, listed_fail}
use Rattle.own_decl.proofs.members.payload_list.Goals as goal

pub returns-in_err-name-clause-gives : goal.returns-in_err-name-clause-gives
returns-in_err-name-clause-gives c =
    let p = err_from_is_err_and c.from_residual.result c.from_residual.ensures.1 in
    rw (p.1, p.2) (listed_fail name_with name_list_is c.args.rest.now c.loop-found.found c.loop-found.left.now c.loop-found.invariant c.in_err-name.field-0.0 c.in_err-name.ensures.gives)

pub returns-then-not-is_mark-clause-gives : goal.returns-then-not-is_mark-clause-gives
returns-then-not-is_mark-clause-gives c =
    listed_stop name_with name_list_is c.args.rest.now c.loop-found.found c.loop-found.left.now c.loop-found.invariant c.in_ok-name.name c.in_ok-name.more.now c.push.new.self c.in_ok-name.ensures.gives (sym c.is_mark.ensures.value ∙ c.if-not-is_mark.true) c.in_ok-push.ensures.ok

pub loop-found-preserved : goal.loop-found-preserved
loop-found-preserved c =
    listed_go name_with name_list_is c.args.rest.now c.loop-found.found c.loop-found.left.now c.loop-found.invariant c.in_ok-name.name c.in_ok-name.more.now c.push.new.self c.after-left.result.now c.in_ok-name.ensures.gives (sym c.is_mark.ensures.value ∙ c.if-not-is_mark.false)
    c.in_ok-push.ensures.ok c.after-left.ensures.value (omega (arith, c.after-left.ensures.within, c.in_ok-name.ensures.shorter))
