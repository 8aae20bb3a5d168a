use Rattle.std.proofs.Common.{ℕ, ◌<◌, get_or, arith}
use Rattle.std.proofs.lemmas.Option.{slice_get-get_or}
use Rattle.own_flow.proofs.TestLaws.{first_none, first_more, first_all}
use Rattle.own_flow.proofs.tests.are_below.Goals as goal

pub next-init : goal.next-init
next-init c = first_none (λ k v. v < c.args.count) c.args.next.now

pub next-preserved : goal.next-preserved
next-preserved c =
    let next = c.args.next.now in let k = c.next.k in let v : ℕ = get_or next k 0 in
    first_more (λ j x. x < c.args.count) next k v (slice_get-get_or next k 0 c.next-test.true) (omega (arith, c.if-next-k.false)) c.next.invariant

pub returns : goal.returns
returns c = λ e. first_all (λ j x. x < c.args.count) c.args.next.now c.next.k c.next-test.false c.next.invariant
