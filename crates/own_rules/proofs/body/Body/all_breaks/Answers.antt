use Rattle.std.proofs.Common.{ℕ, ◌<◌, [], get_or, sym, subst, arith}
use Rattle.std.proofs.lemmas.Option.{slice_get-get_or}
use Rattle.own_breaks.specs.Settling.{Gathers}
use Rattle.own_breaks.proofs.Gathering.{gathers_none, gathers_more}
use Rattle.own_rules.specs.Bodies.{OpBreaks, ExitBreaks}
use Rattle.own_rules.proofs.Growing.{AtNode, node_breaks, all_nodes}
use Rattle.own_rules.proofs.body.Body.all_breaks.Goals as goal

pub nodes-init : goal.nodes-init
nodes-init c =
    subst (λ l. Gathers (λ f. (j : ℕ) × (j < 0) × AtNode c.args.self.now j f) [] l) (sym c.new-found.ensures.items)
    (gathers_none (λ f. (j : ℕ) × (j < 0) × AtNode c.args.self.now j f) [] (λ f h. omega (arith, h.1)))

pub nodes-preserved : goal.nodes-preserved
nodes-preserved c =
    let b = c.args.self.now in let k = c.nodes.node in let n = get_or b.nodes.now k c.index-self-node.result in
    let xs = c.nodes.found.items in let ys = c.push_op.new.found.items in let zs = c.push_exit.new.found.items in
    let op : Gathers (OpBreaks b k n.op) xs ys = c.in_ok-push_op.ensures in
    let exit : Gathers (ExitBreaks b k n.exit) ys zs = c.in_ok-push_exit.ensures in
    gathers_more (λ j f. AtNode b j f) k [] xs zs c.nodes.invariant (node_breaks b k n xs ys zs (slice_get-get_or b.nodes.now k c.index-self-node.result c.nodes-test.true) op exit)

pub returns : goal.returns
returns c = all_nodes c.args.self.now c.nodes.node [] c.nodes.found.items c.nodes-test.false c.nodes.invariant
