use Rattle.std.proofs.Common.{get_or, length, ap, ◌∙◌}
use Rattle.own_flow.proofs.WordLaws.{none_has, same_all}
use Rattle.own_flow.proofs.bits.clear_words.Goals as goal

pub returns-clause-none : goal.returns-clause-none
returns-clause-none c = none_has c.fill.new.self (λ j. ap (λ l. get_or l j 0) (c.fill.ensures.after (λ y h. h)) ∙ same_all (length c.args.set.now) j 0)
