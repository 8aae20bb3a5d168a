use Rattle.std.proofs.Common.{◌≡◌, ◌+◌, ◌<◌, length, slice_get, Some, refl, sym, ap, ◌∙◌, subst, arith, rules}
use Rattle.std.proofs.lemmas.List.Sorted.{answers_always}
use Rattle.std.proofs.lemmas.Option.{slice_get_read}
use Rattle.std.specs.Ordering.{is_lt}
use Rattle.own_breaks.specs.Settling.{question_cmp, offered, AreBest}
use Rattle.own_breaks.proofs.Gathering.{questions_rank}
use Rattle.own_rules.proofs.Sorting.{AreBestOf, best_of_none, best_more, best_of_all}
use Rattle.own_rules.proofs.best.best.Goals as goal

pub found-init : goal.found-init
found-init c = subst (λ l. AreBestOf c.sort_unstable_by.new.self.items 0 l) (sym c.new-best.ensures.items) (best_of_none c.sort_unstable_by.new.self.items)

pub found-preserved : goal.found-preserved
found-preserved c =
    let sorted = c.sort_unstable_by.new.self.items in let k = c.found.k in let f = c.index-f.result.now in
    let up = c.sort_unstable_by.ensures.sorted (λ f g. is_lt (question_cmp f g)) questions_rank (answers_always _ _ _ (λ f a r g h. search rules)) in
    let within : k < length sorted = omega (arith, c.found-test.true, c.len-k-end.ensures) in
    let there : slice_get sorted k ≡ Some f = slice_get_read sorted (length sorted) k f refl within c.index-f.ensures in
    subst (λ l. AreBestOf sorted (k + 1) l) (sym (c.in_ok-offer.ensures ∙ ap (λ x. offered c.found.best.items x) c.in_ok-finding_at.ensures))
    (best_more sorted up k f c.found.best.items there c.found.invariant)

pub returns : goal.returns
returns c =
    let sorted = c.sort_unstable_by.new.self.items in
    let up = c.sort_unstable_by.ensures.sorted (λ f g. is_lt (question_cmp f g)) questions_rank (answers_always _ _ _ (λ f a r g h. search rules)) in
    subst (λ l. AreBest c.args.found.items l) (sym c.from_vec.ensures)
    (best_of_all sorted up c.args.found.items c.found.k c.found.best.items c.sort_unstable_by.ensures.permutation (omega (arith, c.found-test.false, c.len-k-end.ensures)) c.found.invariant)
