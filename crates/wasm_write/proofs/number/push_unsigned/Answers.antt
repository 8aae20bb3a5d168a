use Rattle.std.proofs.Common.{◌≡◌, ◌+◌, ◌%◌, refl, sym, arith}
use Rattle.wasm_form.specs.Leb.{shortest_in, unsigned_shortest}
use Rattle.wasm_write.proofs.Rests.{unsigned_form, begins, goes_on, ends}
use Rattle.wasm_write.proofs.number.push_unsigned.Goals as goal

pub loop-rest-init : goal.loop-rest-init
loop-rest-init c = begins shortest_in _ c.args.n (omega arith)

pub loop-rest-preserved : goal.loop-rest-preserved
loop-rest-preserved c = goes_on shortest_in 128 _ unsigned_form _ c.loop-rest.out.items _ c.loop-rest.rest (c.loop-rest.rest % 128 + 128) c.loop-rest.invariant c.loop-rest-test.true refl c.in_ok-push.ensures.items

pub returns : goal.returns
unfolding unsigned_shortest
returns c =
    let small : c.loop-rest.rest % 128 ≡ c.loop-rest.rest = omega (arith, c.loop-rest-test.false) in
    ends shortest_in 128 _ unsigned_form _ c.loop-rest.out.items _ c.loop-rest.rest c.loop-rest.rest c.loop-rest.invariant c.loop-rest-test.false (sym small) c.in_ok-push-2.ensures.items
