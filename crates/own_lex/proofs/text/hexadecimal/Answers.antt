use Rattle.std.proofs.Common.{◌+◌, ◌*◌, ◌^◌, ◌<◌, sym, ◌∙◌, arith}
use Rattle.own_lex.proofs.Steps.{hexadecimal_goes, digits_fit, digits_small}
use Rattle.own_lex.proofs.text.hexadecimal.Goals as goal

pub overflow_mul-value : goal.overflow_mul-value
overflow_mul-value c =
    let small : c.loop-count.value * 16 + c.in-Some.digit < 2 ^ 32 = digits_small _ _ _ c.loop-count.invariant.small c.loop-count-test.true c.in-Some.ensures.small in
    omega arith

pub overflow_add-value : goal.overflow_add-value
overflow_add-value c =
    let small : c.loop-count.value * 16 + c.in-Some.digit < 2 ^ 32 = digits_small _ _ _ c.loop-count.invariant.small c.loop-count-test.true c.in-Some.ensures.small in
    omega arith

pub loop-count-preserved : goal.loop-count-preserved
loop-count-preserved c = record {
  whole = rw c.after-rest.ensures.value (sym (hexadecimal_goes _ _ _ _ (sym c.in-Some.ensures.value) c.loop-count-test.true) ∙ c.loop-count.invariant.whole);
  small = digits_fit _ _ _ c.loop-count.invariant.small c.in-Some.ensures.small;
  within = omega arith;
}
