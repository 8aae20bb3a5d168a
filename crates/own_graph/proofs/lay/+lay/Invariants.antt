use Rattle.std.proofs.Common.{◌≡◌, ◌≤◌, length, map, take}
use Rattle.own_tree.specs.OpSource.{in_order}
use Rattle.own_tree.specs.OpView.{op_view}
use Rattle.own_walks.specs.Building.{built, lay}
use Rattle.own_graph.specs.Scopes.{ways_of}
use Rattle.own_graph.proofs.lay.+lay.Given as goal

abbrev pub invariant-lay_all-items : goal.invariant-lay_all-items
invariant-lay_all-items l = record {
  laid : lay (in_order (map op_view (take l.i l.items))) (ways_of l.fn.scopes.items l.to) (built l.nodes.items l.at) ≡ lay (in_order (map op_view l.items)) (ways_of l.fn.scopes.items l.to) (built l.fn.nodes.items l.next);
  scopes : l.scopes.items ≡ l.fn.scopes.items;
  low : l.i ≤ length l.items;
}

abbrev pub decreases-lay_all-items : goal.decreases-lay_all-items
decreases-lay_all-items l = l.i
