use Rattle.std.proofs.Common.{length, take, vec_len}
use Rattle.own_flow.specs.Flow.{Spreads, Gains, Sized}
use Rattle.own_flow.proofs.sweep.spread.Given as goal

abbrev pub invariant-loop-v : goal.invariant-loop-v
invariant-loop-v l = record {
  spreads : Spreads l.out (take l.v-index l.next) l.fn.rows.items l.rows.items l.fn.waiting.items l.waiting.items;
  gains : Gains l.grown l.fn.rows.items l.rows.items l.fn.waiting.items l.waiting.items;
  sized : Sized (vec_len l.fn.rows) (length l.out) l.rows.items l.waiting.items;
}
