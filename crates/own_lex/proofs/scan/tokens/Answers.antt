use Rattle.std.proofs.Common.{sym, ◌∙◌, arith}
use Rattle.own_lex.proofs.Lengths.{blank_less, token_less}
use Rattle.own_lex.proofs.Turns.{turn_blank, turn_more}
use Rattle.own_lex.proofs.scan.tokens.Goals as goal

pub loop-rest-smaller-in-Some : goal.loop-rest-smaller-in-Some
loop-rest-smaller-in-Some c = blank_less c.loop-rest.rest.chars.now (c.in-Some.line, c.in-Some.others.chars.now) (rw c.in-Some.is at c.in_ok-line.ensures.gives)

pub loop-rest-preserved-in-Some : goal.loop-rest-preserved-in-Some
loop-rest-preserved-in-Some c = record {
  whole = sym (turn_blank c.args.total c.loop-rest.tokens c.loop-rest.before.space c.loop-rest.before.line c.loop-rest.rest.chars.now (c.in-Some.line, c.in-Some.others.chars.now) (sym c.is_over.ensures ∙ c.loop-rest-test.true) (rw c.in-Some.is at c.in_ok-line.ensures.gives)) ∙ c.loop-rest.invariant.whole;
  within = (let le = rw c.in-Some.is at c.in_ok-line.ensures.within in omega arith);
}

pub loop-rest-smaller : goal.loop-rest-smaller
loop-rest-smaller c = token_less c.loop-rest.rest.chars.now (c.in_ok-kind.kind, c.in_ok-kind.others.chars.now) c.in_ok-kind.ensures.gives

pub loop-rest-preserved : goal.loop-rest-preserved
loop-rest-preserved c = record {
  whole = rw (c.in_ok-push.ensures.ok, c.token_of.ensures, c.gives_space-space.ensures) (sym (turn_more c.args.total c.loop-rest.tokens c.loop-rest.before.space c.loop-rest.before.line c.loop-rest.rest.chars.now (c.in_ok-kind.kind, c.in_ok-kind.others.chars.now) (sym c.is_over.ensures ∙ c.loop-rest-test.true) (rw c.in_default.is at c.in_ok-line.ensures.gives) c.in_ok-kind.ensures.gives (λ e. c.if-len-eq-MOST_TOKENS.false (c.len.ensures ∙ e)))) ∙ c.loop-rest.invariant.whole;
  within = (let le = c.in_ok-kind.ensures.within in omega arith);
}
