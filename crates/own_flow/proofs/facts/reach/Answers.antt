use Rattle.std.proofs.Common.{◌≡◌, length, set, true, sym, ◌∙◌, subst, arith}
use Rattle.own_flow.specs.Facts.{words_for}
use Rattle.own_flow.specs.Flow.{AreWhole, Settles, Sized}
use Rattle.own_flow.proofs.FactLaws.{whole_of, exact_of, within_of, facts_of}
use Rattle.own_flow.proofs.facts.reach.Goals as goal

pub settle-requires-clause-whole : goal.settle-requires-clause-whole
settle-requires-clause-whole c =
    let ns = c.as_slice-nodes.result.now in let ps = c.as_slice-pairs.result.now in let k = c.len-leaves.result in
    let at = c.in_ok-at.at.items in let masks = c.in_ok-masks.masks.items in
    let as_many : length at ≡ length ns = omega (arith, c.in_ok-at.ensures.len) in
    let count : length masks ≡ k = omega (arith, c.in_ok-masks.ensures.len) in
    let whole = whole_of c.args.graph.now c.args.makers.now ns ps k c.as_slice-nodes.ensures c.as_slice-pairs.ensures c.len-leaves.ensures c.requires at masks
    c.in_ok-at.ensures.made c.in_ok-masks.ensures.has as_many count c.in_ok-masks.ensures.long
    in
    subst (λ w. AreWhole ns c.as_slice.result.now c.as_slice-2.result.now w) (sym c.in_ok-out.ensures.len)
    (subst (λ l. AreWhole ns c.as_slice.result.now l (words_for (length ps))) (sym c.as_slice-2.ensures.value)
    (subst (λ l. AreWhole ns l masks (words_for (length ps))) (sym c.as_slice.ensures.value) whole))

pub invariant_of-result : goal.invariant_of-result
invariant_of-result c =
    let ns = c.as_slice-nodes.result.now in let ps = c.as_slice-pairs.result.now in let k = c.len-leaves.result in
    let at = c.in_ok-at.at.items in let masks = c.in_ok-masks.masks.items in let rows = c.settle.new.rows.items in let waiting = c.in_ok-waiting.waiting.items in
    let begun = set waiting c.args.graph.now.entry true in
    let many : length ns ≡ length waiting = omega (arith, c.in_ok-waiting.ensures.len) in
    let settles = subst (λ l. Settles ns at l c.in_ok-rows.rows.items rows begun) c.as_slice-2.ensures.value
    (subst (λ l. Settles ns l c.as_slice-2.result.now c.in_ok-rows.rows.items rows begun) c.as_slice.ensures.value c.settle.ensures.exact)
    in (
      record {
        sized = subst (λ n. Sized n (words_for (length ps)) rows c.settle.new.waiting.items) (sym c.settle.ensures.sized.count_is)
            (subst (λ w. Sized (length ns) w rows c.settle.new.waiting.items) c.in_ok-out.ensures.len c.settle.ensures.sized);
        within = within_of c.args.graph.now c.args.makers.now ns ps k c.as_slice-nodes.ensures c.as_slice-pairs.ensures c.len-leaves.ensures c.requires at masks
            c.in_ok-at.ensures.made c.in_ok-masks.ensures.has c.in_ok-rows.rows.items rows waiting many c.in_ok-rows.ensures.has settles;
      },
      c.settle.ensures.len ∙ c.in_ok-out.ensures.len,
      c.in_ok-mask.ensures.len,
    )

pub returns : goal.returns
returns c =
    let ns = c.as_slice-nodes.result.now in let ps = c.as_slice-pairs.result.now in let k = c.len-leaves.result in
    let at = c.in_ok-at.at.items in let masks = c.in_ok-masks.masks.items in let rows = c.settle.new.rows.items in let waiting = c.in_ok-waiting.waiting.items in
    let begun = set waiting c.args.graph.now.entry true in
    let settles = subst (λ l. Settles ns at l c.in_ok-rows.rows.items rows begun) c.as_slice-2.ensures.value
    (subst (λ l. Settles ns l c.as_slice-2.result.now c.in_ok-rows.rows.items rows begun) c.as_slice.ensures.value c.settle.ensures.exact)
    in
    let many : length ns ≡ length waiting = omega (arith, c.in_ok-waiting.ensures.len) in
    facts_of c.args.graph.now c.args.makers.now ns ps k c.as_slice-nodes.ensures c.as_slice-pairs.ensures c.len-leaves.ensures rows c.settle.ensures.sized.count_is
    (exact_of c.args.graph.now c.args.makers.now ns ps k c.as_slice-nodes.ensures c.as_slice-pairs.ensures c.len-leaves.ensures c.requires at masks
    c.in_ok-at.ensures.made c.in_ok-masks.ensures.has c.in_ok-rows.rows.items rows waiting many c.in_ok-rows.ensures.has settles)
    (within_of c.args.graph.now c.args.makers.now ns ps k c.as_slice-nodes.ensures c.as_slice-pairs.ensures c.len-leaves.ensures c.requires at masks
    c.in_ok-at.ensures.made c.in_ok-masks.ensures.has c.in_ok-rows.rows.items rows waiting many c.in_ok-rows.ensures.has settles)
