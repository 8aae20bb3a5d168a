use Rattle.std.proofs.Common.{◌<◌, false, get_or, arith}
use Rattle.std.proofs.lemmas.Option.{slice_get-get_or}
use Rattle.own_tree.specs.declared.graph.Maker.{Maker}
use Rattle.own_flow.proofs.TestLaws.{first_none, first_more, first_all}
use Rattle.own_flow.proofs.tests.are_of_nodes_and_leaves.Goals as goal

abbrev nobody : Maker
nobody = record { node = 0; leaf = 0; live = false }

pub pairs-init : goal.pairs-init
pairs-init c = first_none (λ p q. (q.node < c.args.nodes) × (q.leaf < c.args.leaves)) c.args.pairs.now

pub pairs-preserved : goal.pairs-preserved
pairs-preserved c =
    let pairs = c.args.pairs.now in let p = c.pairs.p in
    first_more (λ j q. (q.node < c.args.nodes) × (q.leaf < c.args.leaves)) pairs p (get_or pairs p nobody) (slice_get-get_or pairs p nobody c.pairs-test.true)
    (omega (arith, c.if-pairs-p.false), omega (arith, c.if-pairs-p-2.false)) c.pairs.invariant

pub returns : goal.returns
returns c = λ e. first_all (λ j q. (q.node < c.args.nodes) × (q.leaf < c.args.leaves)) c.args.pairs.now c.pairs.p c.pairs-test.false c.pairs.invariant
