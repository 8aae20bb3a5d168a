use Rattle.std.proofs.Common.{get_or, ap, ◌∙◌}
use Rattle.own_flow.proofs.WordLaws.{none_has, same_all}
use Rattle.own_flow.proofs.bits.Bits.new.Goals as goal

pub returns-clause-none : goal.returns-clause-none
returns-clause-none c =
    none_has c.in_ok-vec.field-0.items (λ j. ap (λ l. get_or l j 0) (c.in_ok-vec.ensures.items_if_clones_equal (λ y h. h)) ∙ same_all c.args.words j 0)
