use Rattle.std.proofs.Common.{length, get_or, ap, arith}
use Rattle.std.proofs.lemmas.Nat.{and_le_l}
use Rattle.std.specs.Prelude.{bit_and}
use Rattle.own_flow.proofs.WordLaws.{common, apart, all_zero}
use Rattle.own_flow.proofs.bits.meet_words.Goals as goal

pub returns-then-a-k-ne0-clause-yes : goal.returns-then-a-k-ne0-clause-yes
returns-then-a-k-ne0-clause-yes c = λ e.
    let f = c.type_inv.a c.words.k in
    common c.args.a.now c.args.b.now c.words.k (omega (arith, f, and_le_l (get_or c.args.a.now c.words.k 0) (get_or c.args.b.now c.words.k 0))) (omega arith)

pub returns-clause-no : goal.returns-clause-no
returns-clause-no c = λ e.
    apart c.args.a.now c.args.b.now
    (all_zero c.args.a.now (λ j w. bit_and w (get_or c.args.b.now j 0)) (length c.args.a.now)
    (λ j w is. ap (λ x. bit_and x (get_or c.args.b.now j 0)) is) (omega arith) (λ j h. c.words.invariant j (omega arith)))
