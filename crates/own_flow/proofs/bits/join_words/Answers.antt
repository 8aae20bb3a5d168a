use Rattle.std.proofs.Common.{ℕ, ◌^◌, ◌<◌, length, get_or, ap, arith, rules}
use Rattle.std.proofs.lemmas.List.{get_or_past}
use Rattle.std.specs.Prelude.{bit_or}
use Rattle.own_flow.proofs.WordLaws.{joined, room_or, one_more, rest_left, all_words}
use Rattle.own_flow.proofs.bits.join_words.Goals as goal

pub words-preserved : goal.words-preserved
words-preserved c =
    let v : ℕ = get_or c.args.from.now c.words.k 0 in
    let h : c.words.k < length c.words.into = omega arith in
    let f : get_or c.words.into c.words.k 0 < 2 ^ 64 = search rules in
    record {
      done = one_more c.words.into c.args.into.now (λ j w. bit_or w (get_or c.args.from.now j 0)) c.words.k h c.words.invariant.done (c.words.invariant.left c.words.k (omega arith));
      left = rest_left c.words.into c.args.into.now c.words.k (bit_or (get_or c.words.into c.words.k 0) v) c.words.invariant.left;
      less = room_or c.words.into c.args.into.now c.words.k v h (omega (arith, f)) c.words.invariant.less;
    }

pub returns-clause-has : goal.returns-clause-has
returns-clause-has c =
    joined c.args.into.now c.args.from.now c.words.into
    (all_words c.words.into c.args.into.now (λ j w. bit_or w (get_or c.args.from.now j 0)) (length c.args.into.now)
    (λ j h. ap (bit_or 0) (get_or_past c.args.from.now j 0 (omega arith))) (omega arith) (λ j h. c.words.invariant.done j (omega arith)) (λ j h. c.words.invariant.left j (omega arith)))
