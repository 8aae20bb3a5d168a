use Rattle.std.proofs.Common.{◌≡◌, length, ap, sym, subst, arith}
use Rattle.std.specs.Prelude.{All}
use Rattle.own_flow.specs.Flow.{HasAt}
use Rattle.own_flow.proofs.TableLaws.{all_push, none_at_push, nothing_has}
use Rattle.own_flow.proofs.tables.empty_sets.Goals as goal

pub loop-init : goal.loop-init
loop-init c =
    let size : length c.new-sets.result.items ≡ 0 = ap length c.new-sets.ensures.items in
    record {
      len = c.new-sets.ensures.len;
      long = λ k d lt. absurd (omega (arith, lt, size));
      none = λ u m h. nothing_has m (subst (λ ls. HasAt ls u m) c.new-sets.ensures.items h);
    }

pub loop-preserved : goal.loop-preserved
loop-preserved c =
    let sets = c.loop.sets.items in let set = c.in_ok-new.field-0 in
    record {
      len = omega (arith, c.in_ok-push.ensures.len, c.loop.invariant.len);
      long = subst (λ ls. All (λ s. length s ≡ c.args.words) ls) (sym c.in_ok-push.ensures.items)
          (all_push (λ s. length s ≡ c.args.words) sets set c.loop.invariant.long c.in_ok-new.ensures.len);
      none = λ u m h. none_at_push sets set c.loop.invariant.none c.in_ok-new.ensures.none u m (subst (λ ls. HasAt ls u m) c.in_ok-push.ensures.items h);
    }

pub returns-clause-len : goal.returns-clause-len
returns-clause-len c = omega (arith, c.loop.invariant.len, c.loop-test.false, c.loop.auto.counter-end)

pub returns-clause-long : goal.returns-clause-long
returns-clause-long c = c.loop.invariant.long

pub returns-clause-none : goal.returns-clause-none
returns-clause-none c = c.loop.invariant.none
