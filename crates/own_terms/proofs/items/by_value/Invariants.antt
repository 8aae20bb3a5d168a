use Rattle.std.proofs.Common.{◌≡◌, map, take}
use Rattle.own_tree.specs.declared.typed.Passing.TheVariants as passing
use Rattle.own_terms.proofs.items.by_value.Given as goal

abbrev pub invariant-loop-item : goal.invariant-loop-item
invariant-loop-item l = l.row ≡ map (λ e. passing.ByValue) (take l._item-index l.items)
