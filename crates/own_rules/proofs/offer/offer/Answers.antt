use Rattle.std.proofs.Common.{◌≡◌, ◌+◌, ◌-◌, length, sym, ap, ◌∙◌, arith}
use Rattle.std.specs.Ordering.{is_eq}
use Rattle.own_breaks.specs.Settling.{question_cmp, is_better}
use Rattle.own_flow.proofs.FlowLaws.{any_default}
use Rattle.own_rules.proofs.Offers.{offered_first, offered_more, offered_better, offered_kept}
use Rattle.own_rules.proofs.offer.offer.Goals as goal

pub returns-then-count-eq0 : goal.returns-then-count-eq0
returns-then-count-eq0 c = c.in_ok-push.ensures.items ∙ sym (offered_first c.args.found.now.items c.args.finding (omega (arith, c.len-count.ensures, c.if-count-eq0.true)))

pub returns-then-not-is_same_question : goal.returns-then-not-is_same_question
returns-then-not-is_same_question c =
    c.in_ok-push-2.ensures.items
    ∙ sym (offered_more c.args.found.now.items c.args.finding c.index.result.now (c.len-count.result - 1) (omega (arith, c.len-count.ensures, c.if-count-eq0.false))
    (ap (λ x. is_eq (question_cmp x c.args.finding)) (sym c.index.ensures) ∙ sym c.if-not-is_same_question.ensures))

pub returns-then-is_better : goal.returns-then-is_better
returns-then-is_better c =
    let xs = c.args.found.now.items in let f = c.args.finding in let k = c.len-count.result - 1 in let d = c.index.result.now in let e = c.index-2.result.now in
    let size : length xs ≡ k + 1 = omega (arith, c.len-count.ensures, c.if-count-eq0.false) in
    sym (offered_better xs f d k size (ap (λ x. is_eq (question_cmp x f)) (sym c.index.ensures) ∙ sym c.if-not-is_same_question.ensures)
    (ap (λ x. is_better f x) (any_default xs k d e (omega (arith, size)) ∙ sym c.index-2.ensures) ∙ sym c.if-is_better.ensures))

pub returns-else-is_better : goal.returns-else-is_better
returns-else-is_better c =
    let xs = c.args.found.now.items in let f = c.args.finding in let k = c.len-count.result - 1 in let d = c.index.result.now in let e = c.index-2.result.now in
    let size : length xs ≡ k + 1 = omega (arith, c.len-count.ensures, c.if-count-eq0.false) in
    sym (offered_kept xs f d k size (ap (λ x. is_eq (question_cmp x f)) (sym c.index.ensures) ∙ sym c.if-not-is_same_question.ensures)
    (ap (λ x. is_better f x) (any_default xs k d e (omega (arith, size)) ∙ sym c.index-2.ensures) ∙ sym c.if-is_better.ensures))
