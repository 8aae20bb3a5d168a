use Rattle.std.proofs.Common.{◌+◌, ap, arith}
use Rattle.wasm_form.specs.Leb.{shortest_signed_in, signed_shortest}
use Rattle.wasm_write.proofs.Rests.{signed_form, begins, goes_on, ends}
use Rattle.wasm_write.proofs.number.push_signed.Goals as goal

pub loop-rest-init : goal.loop-rest-init
loop-rest-init c = begins (λ k n. shortest_signed_in k c.args.negative n) _ c.args.n (omega arith)

pub loop-rest-preserved : goal.loop-rest-preserved
loop-rest-preserved c = goes_on (λ k n. shortest_signed_in k c.args.negative n) 64 _ (signed_form c.args.negative) _ c.loop-rest.out.items _ c.loop-rest.rest _ c.loop-rest.invariant c.loop-rest-test.true (ap (λ b. b + 128) c.group.ensures.value) c.in_ok-push.ensures.items

pub returns : goal.returns
unfolding signed_shortest
returns c = ends (λ k n. shortest_signed_in k c.args.negative n) 64 _ (signed_form c.args.negative) _ c.loop-rest.out.items _ c.loop-rest.rest _ c.loop-rest.invariant c.loop-rest-test.false c.group-2.ensures.value c.in_ok-push-2.ensures.items
