use Rattle.std.proofs.Common.{◌≡◌, ℕ, [], ◌∷◌, length, take, get_or, vec_len, sym, subst, arith}
use Rattle.std.proofs.lemmas.List.{take_more}
use Rattle.own_flow.specs.Flow.{Spreads, Sized}
use Rattle.own_flow.proofs.FlowLaws.{spread_on, gains_on}
use Rattle.own_flow.proofs.sweep.spread.Goals as goal

pub loop-v-preserved : goal.loop-v-preserved
loop-v-preserved c =
    let v : ℕ = get_or c.args.next.now c.loop-v.v-index 0 in
    let more = take_more c.args.next.now c.loop-v.v-index 0 (omega arith) in
    let many : vec_len c.loop-v.rows ≡ vec_len c.args.rows.now = omega (arith, c.loop-v.invariant.sized.count_is) in
    record {
      spreads = subst (λ l. Spreads c.args.out.now l c.args.rows.now.items c.offer-grown.new.rows.items c.args.waiting.now.items c.offer-grown.new.waiting.items) (sym more)
          (spread_on c.args.out.now (take c.loop-v.v-index c.args.next.now) (v ∷ []) c.args.rows.now.items c.loop-v.rows.items c.offer-grown.new.rows.items c.args.waiting.now.items c.loop-v.waiting.items c.offer-grown.new.waiting.items
          c.loop-v.invariant.spreads c.offer-grown.ensures.spreads);
      gains = gains_on c.loop-v.grown c.offer-grown.result c.args.rows.now.items c.loop-v.rows.items c.offer-grown.new.rows.items c.args.waiting.now.items c.loop-v.waiting.items c.offer-grown.new.waiting.items
          c.loop-v.invariant.spreads.grows c.offer-grown.ensures.spreads.grows
          c.loop-v.invariant.gains c.offer-grown.ensures.gains;
      sized = subst (λ n. Sized n (length c.args.out.now) c.offer-grown.new.rows.items c.offer-grown.new.waiting.items) many c.offer-grown.ensures.sized;
    }
