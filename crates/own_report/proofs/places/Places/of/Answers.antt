use Rattle.std.proofs.Common.{◌≡◌, ◌/◌, length, arith, rules}
use Rattle.own_report.proofs.Known.{begins, known_none, known_more, longer}
use Rattle.own_report.specs.declared.places.TheConstants.{STRIDE}
use Rattle.own_report.proofs.places.Places.of.Goals as goal

pub loop-number-init : goal.loop-number-init
loop-number-init c = record {
  place = begins c.front-text.result.now;
  each = search rules;
  exact = let h = c.new-known.ensures.items in rw h (known_none c.front-text.result.now);
}

pub loop-number-preserved : goal.loop-number-preserved
loop-number-preserved c = record {
  place = c.place_after-place.ensures;
  each = longer _ _ _ c.loop-number.number c.in_ok-push.ensures.items c.loop-number.invariant.each;
  exact = known_more c.front-text.result.now _ _ _ c.loop-number.number c.in_ok-push.ensures.items c.loop-number.invariant.exact c.loop-number.invariant.each c.loop-number.invariant.place;
}

pub invariant_of-result : goal.invariant_of-result
invariant_of-result c =
    let all : c.loop-number.number ≡ length c.front-text.result.now / STRIDE = omega arith in
    let long = longer _ _ _ c.loop-number.number c.in_ok-push-2.ensures.items c.loop-number.invariant.each in
    record {
      short = c.front-text.ensures.short;
      each = omega arith;
      exact = known_more c.front-text.result.now _ _ _ c.loop-number.number c.in_ok-push-2.ensures.items c.loop-number.invariant.exact c.loop-number.invariant.each c.loop-number.invariant.place;
    }
