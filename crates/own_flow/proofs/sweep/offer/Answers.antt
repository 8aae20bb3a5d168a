use Rattle.std.proofs.Common.{◌≡◌, ℕ, ◌<◌, [], length, set, refl, sym, ◌∙◌, subst, inr, arith}
use Rattle.std.proofs.lemmas.List.{get_or-set_same}
use Rattle.std.specs.Prelude.{◌↔◌, ◌⊎◌, slice_index_or}
use Rattle.own_flow.specs.Flow.{HasAt}
use Rattle.own_flow.specs.Words.{Has, room}
use Rattle.own_flow.proofs.FlowLaws.{spread_joined, total_set, any_default, less_room}
use Rattle.own_flow.proofs.sweep.offer.Goals as goal

pub returns-clause-spreads : goal.returns-clause-spreads
returns-clause-spreads c =
    let rows = c.args.rows.now.items in let v = c.args.v in let read = c.index_mut.result.now in
    let h : v < length rows = omega arith in
    let row : read ≡ slice_index_or rows v [] = c.index_mut.ensures.value ∙ any_default rows v read [] h in
    spread_joined c.args.out.now c.join.new.self v rows c.args.waiting.now.items h (omega arith)
    (λ m. subst (λ l. Has c.join.new.self m ↔ (Has l m ⊎ Has c.args.out.now m)) row (c.join.ensures.has m))

pub returns-clause-gains : goal.returns-clause-gains
returns-clause-gains c =
    let rows = c.args.rows.now.items in let v = c.args.v in let read = c.index_mut.result.now in let joined = c.join.new.self in
    let h : v < length rows = omega arith in
    let row : read ≡ slice_index_or rows v [] = c.index_mut.ensures.value ∙ any_default rows v read [] h in
    let tested : c.index.result.now ≡ slice_index_or rows v [] = c.index.ensures ∙ any_default rows v c.index.result.now [] h in
    let missing = c.if-is_within.ensures.no refl in
    let less = less_room c.args.out.now read joined c.join.ensures.has c.join.ensures.less
    (subst (λ l. (i : ℕ) × Has c.args.out.now i × ¬ (Has l i)) (tested ∙ sym row) missing) in
    let there : HasAt (set rows v joined) v missing.0 =
    subst (λ l. Has l missing.0) (sym (get_or-set_same rows v joined [] h)) ((c.join.ensures.has missing.0).1 (inr missing.1)) in
    record {
      none = λ e. cc;
      some = λ e. total_set rows v joined h (subst (λ l. room joined < room l) row less);
      new = λ e. (v, missing.0, there, λ old. missing.2 (subst (λ l. Has l missing.0) (sym tested) old));
    }
