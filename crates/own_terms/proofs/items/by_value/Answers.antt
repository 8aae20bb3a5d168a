use Rattle.std.proofs.Common.{map, sym, ap, ◌∙◌}
use Rattle.std.proofs.lemmas.List.{take_all}
use Rattle.own_tree.specs.declared.typed.Passing.TheVariants as passing
use Rattle.own_terms.proofs.ItemLaws.{all_items}
use Rattle.own_terms.proofs.items.by_value.Goals as goal

pub returns : goal.returns
returns c =
    c.loop-item.invariant
    ∙ ap (map (λ e. passing.ByValue)) (take_all c.loop-item._item-index c.args.items.now c.loop-item-test.false)
    ∙ sym (all_items c.args.items.now)
