use Rattle.std.proofs.Common.{◌≡◌, length, set, slice_get, get_or, refl, sym, ap, ◌∙◌, subst, arith, length-set}
use Rattle.std.proofs.lemmas.Option.{slice_get-get_or, slice_get_read}
use Rattle.own_table.specs.ByParts.{measure_by_parts, slots_at}
use Rattle.own_table.specs.Measures.{AreMeasures}
use Rattle.own_table.proofs.Extended.{all_within}
use Rattle.own_table.proofs.Measured.{MeasuredAt, measured_more, all_measured}
use Rattle.own_table.proofs.measure.measures.Goals as goal

pub loop-number-preserved : goal.loop-number-preserved
loop-number-preserved c =
    let ts = c.args.types.now in let order = c.args.order.now in let ms = c.loop-number.measures.items in
    let i = c.loop-number.number-index in let k = get_or order i 0 in let t = c.index-types-number.result in
    let here = slice_get-get_or order i 0 c.loop-number-test.true in
    let at = slice_get_read ts (length ts) k t refl (c.requires.order.after_parts.declared i k here) c.index-types-number.is in
    let is : c.in_ok-computed.computed ≡ measure_by_parts ms (slots_at (slice_get c.args.known.now k)) t =
    c.in_ok-computed.ensures ∙ ap (λ x. measure_by_parts x c.slots_at-slots.result t) c.as_slice.ensures.value ∙ ap (λ n. measure_by_parts ms n t) c.slots_at-slots.ensures in
    record {
      each = length-set ms k c.in_ok-computed.computed ∙ c.loop-number.invariant.each;
      measured = λ at' j lt e. subst (λ m. MeasuredAt ts (set ms k m) j) (sym is)
          (measured_more ts order c.requires.order c.args.known.now c.requires.known (all_within ts c.requires.within order c.requires.order) ms i k t here at c.loop-number.invariant.each c.loop-number.invariant.measured at' j lt e);
    }

pub returns-clause-measured : goal.returns-clause-measured
returns-clause-measured c =
    let h = c.loop-number-test.false in
    subst (λ ms. AreMeasures c.args.types.now ms) (sym c.from_vec.ensures)
    (all_measured c.args.types.now c.args.order.now c.requires.order c.loop-number.measures.items c.loop-number.invariant.each
    (λ at j lt e. c.loop-number.invariant.measured at j (omega arith) e))
