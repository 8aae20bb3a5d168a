use Rattle.std.proofs.Common.{◌≡◌, ℕ, ◌<◌, length, slice_get, Some, refl, sym, ap, ◌∙◌, subst}
use Rattle.std.proofs.lemmas.Option.{slice_get_read}
use Rattle.own_shapes.proofs.Lists.{contains_get}
use Rattle.own_tree.specs.declared.graph.Node.{Node}
use Rattle.own_flow.proofs.TestLaws.{first_none, first_more, first_all}
use Rattle.own_flow.proofs.tests.lead_to_nodes.Goals as goal

pub nodes-init : goal.nodes-init
nodes-init c = first_none (λ (u : ℕ) (n : Node). (k v : ℕ) → slice_get n.next k ≡ Some v → v < length c.args.nodes.now) c.args.nodes.now

pub nodes-preserved : goal.nodes-preserved
nodes-preserved c =
    let nodes = c.args.nodes.now in let u = c.nodes.u in let read = c.index-nodes-u.result in
    let node : slice_get nodes u ≡ Some read = slice_get_read nodes (length nodes) u read refl c.nodes-test.true c.index-nodes-u.is in
    let is : c.as_slice.result.now ≡ read.next = c.as_slice.ensures ∙ sym (ap (λ (n : Node). n.next) c.index-nodes-u.is) in
    first_more (λ (j : ℕ) (n : Node). (k v : ℕ) → slice_get n.next k ≡ Some v → v < length nodes) nodes u read node
    (λ k v e. c.if-not-are_below.ensures refl k v (subst (λ l. slice_get l k ≡ Some v) (sym is) e)) c.nodes.invariant

pub returns : goal.returns
returns c = λ e u v edge.
    let all = first_all (λ (j : ℕ) (n : Node). (k v : ℕ) → slice_get n.next k ≡ Some v → v < length c.args.nodes.now) c.args.nodes.now c.nodes.u c.nodes-test.false c.nodes.invariant in
    let there = contains_get edge.0.next v edge.2 in
    all u edge.0 edge.1 there.0 v there.2
