use Rattle.std.proofs.Common.{◌≡◌, ◌<◌, [], length, slice_get, Some, refl, sym, ap, ◌∙◌, subst, arith}
use Rattle.std.proofs.lemmas.Option.{slice_get_read}
use Rattle.std.specs.Prelude.{Contains, slice_index_or, slice_set, false, true}
use Rattle.own_tree.specs.declared.graph.Node.{Node}
use Rattle.own_flow.specs.Flow.{Fits, Behind, Spreads, made_at}
use Rattle.own_flow.proofs.FlowLaws.{any_default, at_index, visited, behind_passes, reach_leaf, unset_waits}
use Rattle.own_flow.proofs.sweep.visit.Goals as goal

pub pass-requires-clause-fits : goal.pass-requires-clause-fits
pass-requires-clause-fits c =
    let h : c.args.u < length c.args.rows.now.items = omega (arith, c.requires.sized.count_is) in
    let row : c.index.result.now ≡ slice_index_or c.args.rows.now.items c.args.u [] = c.index.ensures ∙ any_default c.args.rows.now.items c.args.u c.index.result.now [] h in
    let made : c.as_slice.result.now ≡ made_at c.args.at.now c.args.u = c.as_slice.ensures ∙ c.index-at-u.is ∙ any_default c.args.at.now c.args.u c.index-at-u.result [] (omega (arith, c.requires.whole.as_many)) in
    let long : length c.index.result.now ≡ length c.args.out.now = ap length row ∙ c.requires.sized.each c.args.u c.requires.within in
    subst (λ n. Fits n c.as_slice.result.now c.args.masks.now) (sym long) (subst (λ l. Fits (length c.args.out.now) l c.args.masks.now) (sym made) (c.requires.whole.fits c.args.u))

pub spread-requires-clause-within : goal.spread-requires-clause-within
spread-requires-clause-within c = λ k d lt.
    let nodes = c.args.nodes.now in let u = c.args.u in let read = c.index-nodes-u.result in let next = c.as_slice-2.result.now in
    let node : slice_get nodes u ≡ Some read = slice_get_read nodes (length nodes) u read refl c.requires.within c.index-nodes-u.is in
    let is : next ≡ read.next = c.as_slice-2.ensures ∙ sym (ap (λ (n : Node). n.next) c.index-nodes-u.is) in
    let edge : slice_index_or next k d < length nodes =
    c.requires.whole.edges u (slice_index_or next k d) (read, node, subst (λ l. Contains l (slice_index_or next k d)) is (at_index next k d lt)) in
    omega (arith, edge, c.requires.sized.count_is)

pub returns-clause-flows : goal.returns-clause-flows
returns-clause-flows c = λ pairs leaves entry t f.
    let h : c.args.u < length c.args.rows.now.items = omega (arith, c.requires.sized.count_is) in
    let row : c.index.result.now ≡ slice_index_or c.args.rows.now.items c.args.u [] = c.index.ensures ∙ any_default c.args.rows.now.items c.args.u c.index.result.now [] h in
    let made : c.as_slice.result.now ≡ made_at c.args.at.now c.args.u = c.as_slice.ensures ∙ c.index-at-u.is ∙ any_default c.args.at.now c.args.u c.index-at-u.result [] (omega (arith, c.requires.whole.as_many)) in
    let node : slice_get c.args.nodes.now c.args.u ≡ Some c.index-nodes-u.result = slice_get_read c.args.nodes.now (length c.args.nodes.now) c.args.u c.index-nodes-u.result refl c.requires.within c.index-nodes-u.is in
    let behind : Behind (slice_index_or c.args.rows.now.items c.args.u []) (made_at c.args.at.now c.args.u) c.args.masks.now c.pass.new.out =
    subst (λ l. Behind l (made_at c.args.at.now c.args.u) c.args.masks.now c.pass.new.out) row (subst (λ l. Behind c.index.result.now l c.args.masks.now c.pass.new.out) made c.pass.ensures.behind)
    in
    let next : c.as_slice-2.result.now ≡ c.index-nodes-u.result.next = c.as_slice-2.ensures ∙ sym (ap (λ (n : Node). n.next) c.index-nodes-u.is) in
    visited pairs leaves c.args.nodes.now entry c.args.rows.now.items c.spread.new.rows.items c.args.waiting.now.items c.spread.new.waiting.items c.args.u c.index-nodes-u.result c.pass.new.out node f
    (behind_passes pairs leaves (made_at c.args.at.now) c.args.masks.now t c.args.u (slice_index_or c.args.rows.now.items c.args.u []) c.pass.new.out
    (λ m has. let r = f.sound c.args.u m has in reach_leaf pairs leaves (made_at c.args.at.now) c.args.masks.now t c.args.nodes.now entry r.0 c.args.u m r.1) behind)
    (subst (λ l. Spreads c.pass.new.out l c.args.rows.now.items c.spread.new.rows.items (slice_set c.args.waiting.now.items c.args.u false) c.spread.new.waiting.items) next c.spread.ensures.spreads)

pub returns-clause-turns : goal.returns-clause-turns
returns-clause-turns c = record {
  none = λ e.
      let same = c.spread.ensures.gains.none e in
      (same.1, λ x on. unset_waits c.args.waiting.now.items c.args.u x (subst (λ w. slice_get w x ≡ Some true) same.0 on));
  some = λ e. c.spread.ensures.gains.some e;
}
