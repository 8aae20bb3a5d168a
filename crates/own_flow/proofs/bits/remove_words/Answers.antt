use Rattle.std.proofs.Common.{length, get_or, arith, w64}
use Rattle.std.specs.Prelude.{bit_and}
use Rattle.std.specs.Int.{bit_not}
use Rattle.std.specs.Int.Bits.{and_zero_l}
use Rattle.own_flow.proofs.WordLaws.{removed, all_words}
use Rattle.own_flow.proofs.bits.remove_words.Goals as goal

pub returns : goal.returns
returns c =
    removed c.args.set.now c.args.what.now c.words.set (λ j. let g = c.type_inv.what j in omega arith)
    (all_words c.words.set c.args.set.now (λ j w. bit_and w (bit_not w64 (get_or c.args.what.now j 0))) (length c.args.set.now)
    (λ j h. and_zero_l (bit_not w64 (get_or c.args.what.now j 0))) (omega arith) (λ j h. c.words.invariant.done j (omega arith)) (λ j h. c.words.invariant.left j (omega arith)))
