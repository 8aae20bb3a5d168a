use Rattle.std.proofs.Common.{◌≡◌, ◌+◌, ◌-◌, ◌<◌, [], length, vec_len, slice_get, Some, refl, sym, ap, ◌∙◌, subst, arith, inl, inr}
use Rattle.std.proofs.lemmas.Option.{slice_get_read}
use Rattle.std.specs.Prelude.{Contains, slice_index_or}
use Rattle.own_tree.specs.declared.graph.Node.{Node}
use Rattle.own_flow.specs.Facts.{words_for}
use Rattle.own_flow.specs.Flow.{Passed, Sized, Spreads}
use Rattle.own_flow.specs.Rounds.{RoundsTo}
use Rattle.own_flow.specs.Words.{Has}
use Rattle.own_flow.proofs.FlowLaws.{any_default, at_index}
use Rattle.own_flow.proofs.RoundLaws.{rounds_none, rounds_step, becomes_within}
use Rattle.own_flow.proofs.round.round.Goals as goal

pub nodes-init : goal.nodes-init
nodes-init c = record {
  len = refl;
  mask_len = refl;
  count = c.requires.count;
  rows = c.requires.rows;
  rounds = rounds_none c.args.pairs.now c.args.leaves c.args.nodes.now c.args.rows.now.items;
  low = omega arith;
}

pub index-requires : goal.index-requires
index-requires c = omega (arith, c.nodes.invariant.count, c.nodes.invariant.low, c.nodes-test.true)

pub pass_by_pairs-requires-clause-out : goal.pass_by_pairs-requires-clause-out
pass_by_pairs-requires-clause-out c = c.nodes.invariant.len ∙ c.requires.out

pub pass_by_pairs-requires-clause-mask : goal.pass_by_pairs-requires-clause-mask
pass_by_pairs-requires-clause-mask c = c.nodes.invariant.mask_len ∙ c.requires.mask

pub pass_by_pairs-requires-clause-row : goal.pass_by_pairs-requires-clause-row
pass_by_pairs-requires-clause-row c =
    let rows = c.nodes.rows.items in let u = c.nodes.node - 1 in
    let low : u < length rows = omega (arith, c.nodes.invariant.count, c.nodes.invariant.low, c.nodes-test.true) in
    ap length (c.index.ensures ∙ any_default rows u c.index.result.now [] low) ∙ c.nodes.invariant.rows.sized.each u low

pub pass_by_pairs-requires-clause-within : goal.pass_by_pairs-requires-clause-within
pass_by_pairs-requires-clause-within c = λ m h.
    let rows = c.nodes.rows.items in let u = c.nodes.node - 1 in
    let low : u < length rows = omega (arith, c.nodes.invariant.count, c.nodes.invariant.low, c.nodes-test.true) in
    c.nodes.invariant.rows.within u m (subst (λ l. Has l m) (c.index.ensures ∙ any_default rows u c.index.result.now [] low) h)

pub bounds-nodes-node : goal.bounds-nodes-node
bounds-nodes-node c = omega (arith, c.nodes.invariant.low, c.nodes-test.true)

pub spread-grown-requires-clause-sized : goal.spread-grown-requires-clause-sized
spread-grown-requires-clause-sized c =
    let size = c.pass_by_pairs.ensures.len ∙ c.nodes.invariant.len ∙ c.requires.out in
    let many : vec_len c.nodes.rows ≡ length c.nodes.rows.items = omega arith in
    subst (λ k. Sized k (length c.pass_by_pairs.new.out) c.nodes.rows.items c.nodes.waiting.items) (sym many)
    (subst (λ n. Sized (length c.nodes.rows.items) n c.nodes.rows.items c.nodes.waiting.items) (sym size) c.nodes.invariant.rows.sized)

pub spread-grown-requires-clause-within : goal.spread-grown-requires-clause-within
spread-grown-requires-clause-within c = λ k d lt.
    let nodes = c.args.nodes.now in let u = c.nodes.node - 1 in let read = c.index-nodes-node.result in let next = c.as_slice.result.now in
    let low : u < length nodes = omega (arith, c.nodes.invariant.low, c.nodes-test.true) in
    let node : slice_get nodes u ≡ Some read = slice_get_read nodes (length nodes) u read refl low c.index-nodes-node.is in
    let is : next ≡ read.next = c.as_slice.ensures ∙ sym (ap (λ (n : Node). n.next) c.index-nodes-node.is) in
    let edge : slice_index_or next k d < length nodes =
    c.requires.edges u (slice_index_or next k d) (read, node, subst (λ l. Contains l (slice_index_or next k d)) is (at_index next k d lt)) in
    omega (arith, edge, c.nodes.invariant.count)

pub nodes-preserved : goal.nodes-preserved
nodes-preserved c =
    let nodes = c.args.nodes.now in let pairs = c.args.pairs.now in let leaves = c.args.leaves in let u = c.nodes.node - 1 in
    let rows = c.nodes.rows.items in let rows' = c.spread-grown.new.rows.items in
    let waiting = c.nodes.waiting.items in let waiting' = c.spread-grown.new.waiting.items in
    let read = c.index-nodes-node.result in let out = c.pass_by_pairs.new.out in
    let low : u < length nodes = omega (arith, c.nodes.invariant.low, c.nodes-test.true) in
    let there : u < length rows = omega (arith, c.nodes.invariant.count, low) in
    let node : slice_get nodes u ≡ Some read = slice_get_read nodes (length nodes) u read refl low c.index-nodes-node.is in
    let is : c.as_slice.result.now ≡ read.next = c.as_slice.ensures ∙ sym (ap (λ (n : Node). n.next) c.index-nodes-node.is) in
    let row = c.index.ensures ∙ any_default rows u c.index.result.now [] there in
    let passed = subst (λ l. Passed pairs leaves u l out) row c.pass_by_pairs.ensures.passed in
    let spreads = subst (λ l. Spreads out l rows rows' waiting waiting') is c.spread-grown.ensures.spreads in
    let size = c.pass_by_pairs.ensures.len ∙ c.nodes.invariant.len ∙ c.requires.out in
    let many : vec_len c.nodes.rows ≡ length rows = omega arith in
    let count = c.spread-grown.ensures.sized.count_is ∙ many in
    let before : c.nodes.node ≡ u + 1 = omega (arith, c.nodes-test.true) in
    record {
      len = c.pass_by_pairs.ensures.len ∙ c.nodes.invariant.len;
      mask_len = c.pass_by_pairs.ensures.mask_len ∙ c.nodes.invariant.mask_len;
      count = count ∙ c.nodes.invariant.count;
      rows = record {
        sized = subst (λ n. Sized n (words_for (length pairs)) rows' waiting') (sym c.spread-grown.ensures.sized.count_is)
            (subst (λ n. Sized (vec_len c.nodes.rows) n rows' waiting') size c.spread-grown.ensures.sized);
        within = λ v m h. elim (spreads.only v m h) [
          | inl old ↦ c.nodes.invariant.rows.within v m old
          | inr new ↦ let o = (passed m).0 new.1 in becomes_within pairs leaves u o.0 m o.2
        ];
      };
      rounds = rounds_step pairs leaves nodes u c.args.rows.now.items rows rows' waiting waiting' c.nodes.grown c.spread-grown.result read out node
          (subst (λ k. RoundsTo pairs leaves nodes k c.args.rows.now.items rows c.nodes.grown) before c.nodes.invariant.rounds) passed spreads c.spread-grown.ensures.gains;
      low = omega (arith, c.nodes.invariant.low);
    }

pub returns-clause-len : goal.returns-clause-len
returns-clause-len c = c.nodes.invariant.len

pub returns-clause-mask_len : goal.returns-clause-mask_len
returns-clause-mask_len c = c.nodes.invariant.mask_len

pub returns-clause-count : goal.returns-clause-count
returns-clause-count c = c.nodes.invariant.count

pub returns-clause-rows : goal.returns-clause-rows
returns-clause-rows c = c.nodes.invariant.rows

pub returns-clause-rounds : goal.returns-clause-rounds
returns-clause-rounds c =
    let last : c.nodes.node ≡ 0 = omega (arith, c.nodes-test.false) in
    subst (λ k. RoundsTo c.args.pairs.now c.args.leaves c.args.nodes.now k c.args.rows.now.items c.nodes.rows.items c.nodes.grown) last c.nodes.invariant.rounds
