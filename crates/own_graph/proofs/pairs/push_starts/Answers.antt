use Rattle.std.proofs.Common.{◌+◌, ◌++◌, drop, sym, ap, ◌∙◌}
use Rattle.own_walks.specs.Pairs.{starts_from}
use Rattle.own_graph.proofs.PairLaws.{start_step, start_end}
use Rattle.own_graph.proofs.pairs.push_starts.Goals as goal

pub loop-leaf-preserved : goal.loop-leaf-preserved
loop-leaf-preserved c =
    let leaves = c.args.leaves.now in let k = c.loop-leaf.leaf in let entry = c.args.entry in
    ap (λ l. l ++ starts_from entry (k + 1) (drop (k + 1) leaves)) c.in_ok-push.ensures.ok
    ∙ start_step entry leaves c.loop-leaf.pairs k c.loop-leaf-test.true ∙ c.loop-leaf.invariant

pub returns : goal.returns
returns c = sym (start_end c.args.entry c.args.leaves.now c.loop-leaf.pairs c.loop-leaf.leaf c.loop-leaf-test.false) ∙ c.loop-leaf.invariant
