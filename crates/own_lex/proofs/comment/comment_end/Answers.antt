use Rattle.std.proofs.Common.{◌<◌, sym, ◌∙◌, arith}
use Rattle.own_lex.proofs.Comments.{on_close, on_open, on_pass, on_end, on_none}
use Rattle.own_lex.proofs.comment.comment_end.Goals as goal

pub returns-then-outer-eq0-clause-value : goal.returns-then-outer-eq0-clause-value
returns-then-outer-eq0-clause-value c =
    rw (c.after-next.ensures.value, c.after.ensures.value) (on_end c.args.text.chars.now c.loop-rest.outer c.loop-rest.line c.loop-rest.rest.chars.now (sym c.begins.ensures ∙ c.if-begins.true) c.if-outer-eq0.true c.loop-rest.invariant.comment)

pub loop-rest-preserved-then-begins : goal.loop-rest-preserved-then-begins
loop-rest-preserved-then-begins c =
    let lt : 0 < c.loop-rest.outer = omega (arith, c.if-outer-eq0.false) in
    record {
      comment = rw (c.after-next.ensures.value, c.after.ensures.value) (on_close c.args.text.chars.now c.loop-rest.outer c.loop-rest.line c.loop-rest.rest.chars.now (sym c.begins.ensures ∙ c.if-begins.true) lt c.loop-rest.invariant.comment);
      within = omega arith;
    }

pub loop-rest-preserved-then-begins-2 : goal.loop-rest-preserved-then-begins-2
loop-rest-preserved-then-begins-2 c =
    record {
      comment = rw (c.after-rest.ensures.value, c.after-then-begins-2.ensures.value) (on_open c.args.text.chars.now c.loop-rest.outer c.loop-rest.line c.loop-rest.rest.chars.now (sym c.begins.ensures ∙ c.if-begins.false) (sym c.begins-else-begins.ensures ∙ c.if-begins-2.true) c.loop-rest.invariant.comment);
      within = omega arith;
    }

pub loop-rest-preserved : goal.loop-rest-preserved
loop-rest-preserved c =
    record {
      comment = rw (c.after-rest-else-begins-2.ensures.value, c.is_at_line_end-line.ensures) (on_pass c.args.text.chars.now c.loop-rest.outer c.loop-rest.line c.loop-rest.rest.chars.now (sym c.begins.ensures ∙ c.if-begins.false) (sym c.begins-else-begins.ensures ∙ c.if-begins-2.false) (sym c.is_over.ensures ∙ c.loop-rest-test.true) c.loop-rest.invariant.comment);
      within = omega arith;
    }

pub returns-clause-value : goal.returns-clause-value
returns-clause-value c = on_none c.args.text.chars.now c.loop-rest.outer c.loop-rest.line c.loop-rest.rest.chars.now (sym c.is_over.ensures ∙ c.loop-rest-test.false) c.loop-rest.invariant.comment
