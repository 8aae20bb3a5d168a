use Rattle.std.proofs.Common.{length, get_or, ap, arith, w64}
use Rattle.std.proofs.lemmas.Nat.{and_le_l}
use Rattle.std.specs.Prelude.{bit_and}
use Rattle.std.specs.Int.{bit_not}
use Rattle.own_flow.proofs.WordLaws.{beyond, covered, all_zero}
use Rattle.own_flow.proofs.bits.within_words.Goals as goal

pub returns-then-a-k-ne0-clause-no : goal.returns-then-a-k-ne0-clause-no
returns-then-a-k-ne0-clause-no c = λ e.
    let f = c.type_inv.a c.words.k in
    beyond c.args.a.now c.args.b.now c.words.k (λ j. let g = c.type_inv.b j in omega arith)
    (omega (arith, f, and_le_l (get_or c.args.a.now c.words.k 0) (bit_not w64 (get_or c.args.b.now c.words.k 0)))) (omega arith)

pub returns-clause-yes : goal.returns-clause-yes
returns-clause-yes c = λ e.
    covered c.args.a.now c.args.b.now (λ j. let g = c.type_inv.b j in omega arith)
    (all_zero c.args.a.now (λ j w. bit_and w (bit_not w64 (get_or c.args.b.now j 0))) (length c.args.a.now)
    (λ j w is. ap (λ x. bit_and x (bit_not w64 (get_or c.args.b.now j 0))) is) (omega arith) (λ j h. c.words.invariant j (omega arith)))
