use Rattle.std.proofs.Common.{sym, ◌∙◌}
use Rattle.own_paths.specs.Fixed.{binding_leaves}
use Rattle.own_table.specs.Table.{types_in}
use Rattle.own_uses.proofs.LeafLaws.{lies_is}
use Rattle.own_excl.specs.View.{place_view}
use Rattle.own_excl.proofs.leaves.lies_in_leaf.Goals as goal

pub returns : goal.returns
returns c = c.binding_leaf_above.ensures ∙ sym (lies_is (place_view c.args.place) (binding_leaves (types_in c.args.table.now) c.args.binding.now))
