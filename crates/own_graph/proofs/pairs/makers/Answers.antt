use Rattle.std.proofs.Common.{sym, ap, ◌∙◌, subst}
use Rattle.std.specs.List.Sorted.{IsNonDecreasingBy}
use Rattle.own_paths.specs.Makers.{leaves_declared}
use Rattle.own_table.specs.Table.{types_in}
use Rattle.own_leaves.proofs.Sorted.{declared_sorted}
use Rattle.own_graph.proofs.PairLaws.{all_pairs}
use Rattle.own_graph.proofs.pairs.makers.Goals as goal

pub push_nodes-requires-clause-sorted : goal.push_nodes-requires-clause-sorted
push_nodes-requires-clause-sorted c =
    subst (λ l. IsNonDecreasingBy (λ leaf. leaf.binding) l) (sym (c.as_slice-2.ensures ∙ c.in_ok-leaves.ensures)) (declared_sorted (types_in c.args.table.now) c.args.body c.as_slice-bindings.result.now)

pub returns : goal.returns
returns c = λ b.
    let types = types_in c.args.table.now in
    let leaves = c.in_ok-leaves.ensures ∙ ap (λ bs. leaves_declared types c.args.body 0 bs) c.as_slice-bindings.ensures in
    record {
      leaves = leaves;
      pairs = all_pairs types c.as_slice-bindings.result.now c.args.typed.now.bindings c.args.body c.args.graph.now.entry c.as_slice-3.result.now c.args.graph.now.nodes
          c.as_slice.result.now c.as_slice-2.result.now (leaves_declared types c.args.body 0 c.args.typed.now.bindings) c.new-pairs.result c.push_starts.new.pairs c.push_nodes.new.pairs
          c.new-pairs.ensures c.in_ok-push_starts.ensures c.in_ok-push_nodes.ensures (c.as_slice.ensures ∙ leaves) (c.as_slice-2.ensures ∙ leaves) c.as_slice-3.ensures c.as_slice-bindings.ensures;
    }
